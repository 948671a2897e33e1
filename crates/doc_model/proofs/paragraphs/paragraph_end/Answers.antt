-- The first item with a mark, or none.
use Rattle.std.proofs.Common.{sym, arith, ◌∙◌, inl, inr}
use Rattle.std.proofs.lemmas.Bool.{cases_lt}
use Rattle.doc_model.proofs.MarkLemmas.{mark_at, HasNoMark-more, HasNoMark-all}
use Rattle.doc_model.proofs.paragraphs.paragraph_end.Goals as goal

pub returns-then-is_some : goal.returns-then-is_some
returns-then-is_some c =
    record {
      after = omega (arith, c.loop-i.auto.i);
      ends = mark_at _ _ _ c.loop-i-test.true c.index-items-i.is (sym c.is_some.ensures ∙ c.if-is_some.true);
      least = λ at after ends. elim (cases_lt at c.loop-i.i) [
        | inl less ↦ absurd (c.loop-i.invariant at after less ends)
        | inr not_less ↦ not_less
      ];
    }

pub loop-i-preserved : goal.loop-i-preserved
loop-i-preserved c =
    HasNoMark-more _ _ _ _ c.loop-i.invariant (sym c.is_some.ensures ∙ c.if-is_some.false)

pub returns : goal.returns
returns c = HasNoMark-all _ _ _ c.loop-i.invariant c.loop-i-test.false
