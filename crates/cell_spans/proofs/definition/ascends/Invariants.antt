use Rattle.std.proofs.Common.{◌≡◌, true}
use Rattle.cell_spans.specs.Definition.{ascends}
use Rattle.cell_spans.proofs.definition.ascends.Given as goal

-- the edges so far ascend
abbrev pub invariant-loop-number : goal.invariant-loop-number
invariant-loop-number l = ascends l.definition l.number ≡ true
