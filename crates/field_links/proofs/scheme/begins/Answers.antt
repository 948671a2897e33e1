use Rattle.std.proofs.Common.{sym, ◌∙◌}
use Rattle.field_links.specs.Kept.{word_units}
use Rattle.field_links.proofs.StepLemmas.{begins_never}
use Rattle.field_links.proofs.scheme.begins.Goals as goal

pub returns-in_default : goal.returns-in_default
returns-in_default c =
    sym (begins_never c.args.scheme.now c.loop-letter.letter-index (word_units c.loop-letter.rest)
    c.loop-letter-test.true
    c.in_default.ensures)
    ∙ c.loop-letter.invariant
