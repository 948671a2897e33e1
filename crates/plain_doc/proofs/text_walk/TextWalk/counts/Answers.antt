use Rattle.std.proofs.Common.{◌∙◌, refl, ap, arith}
use Rattle.std.proofs.Math.Seq.{take-length}
use Rattle.plain_doc.specs.RulesOfSheet.{note_count, section_count}
use Rattle.plain_doc.proofs.TextWalkLemmas.{all_passed}
use Rattle.plain_doc.proofs.text_walk.TextWalk.counts.Goals as goal

pub returns-then-is_empty : goal.returns-then-is_empty
returns-then-is_empty c = λ sheet part text ends few passed. (
  all_passed sheet part text c.args.self.now ends passed c.if-self-eq0.true (c.if-is_empty.ensures.0 refl),
  record {
    notes = passed.notes ∙ ap note_count (take-length text);
    sections = passed.sections ∙ ap section_count (take-length text);
    few = omega (arith, passed.few.1.1, few);
  },
)
