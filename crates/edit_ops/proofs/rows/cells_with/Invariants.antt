use Rattle.std.proofs.Common.{◌≡◌, ◌+◌, length, take}
use Rattle.std.specs.List.{flat_map, sum_by}
use Rattle.edit_ops.specs.Fresh.{cell_items}
use Rattle.edit_ops.proofs.rows.cells_with.Given as goal

-- the cells so far
abbrev pub invariant-loop-i : goal.invariant-loop-i
invariant-loop-i l = record {
  items : l.items ≡ flat_map cell_items (take l.i l.cells);
  few : length l.items ≡ sum_by length (take l.i l.cells) + l.i;
}
