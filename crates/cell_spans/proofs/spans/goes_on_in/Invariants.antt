use Rattle.std.proofs.Common.{◌≡◌, take, false}
use Rattle.std.specs.List.{list_any}
use Rattle.cell_spans.specs.Spans.{is_part_of_cell}
use Rattle.cell_spans.proofs.spans.goes_on_in.Given as goal

-- none so far is a part of the cell
abbrev pub invariant-loop-below : goal.invariant-loop-below
invariant-loop-below l = list_any (is_part_of_cell l.cell) (take l.below-index l.row) ≡ false
