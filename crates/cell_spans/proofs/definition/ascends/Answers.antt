use Rattle.std.proofs.Common.{◌∙◌, true, false, sym, arith}
use Rattle.cell_spans.proofs.WalkLemmas.{ascends_more, ascends_not}
use Rattle.cell_spans.proofs.definition.ascends.Goals as goal

pub returns-then-not-is_wide : goal.returns-then-not-is_wide
returns-then-not-is_wide c =
    sym (ascends_not c.args.definition.now c.args.count c.loop-number.number (omega arith) (sym c.is_wide.ensures
    ∙ c.if-not-is_wide.true))

pub loop-number-preserved : goal.loop-number-preserved
loop-number-preserved c =
    ascends_more c.args.definition.now c.loop-number.number c.loop-number.invariant (sym c.is_wide.ensures
    ∙ c.if-not-is_wide.false)
