use Rattle.std.proofs.Common.{◌≡◌, take, false}
use Rattle.std.specs.List.{list_any}
use Rattle.cell_spans.specs.Spans.{is_above}
use Rattle.cell_spans.proofs.spans.some_above.Given as goal

-- none so far goes on in the cell
abbrev pub invariant-loop-above : goal.invariant-loop-above
invariant-loop-above l = list_any (is_above l.cell) (take l.above-index l.before) ≡ false
