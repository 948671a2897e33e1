use Rattle.std.proofs.Common.{◌≡◌, ◌≤◌, length, take}
use Rattle.std.specs.List.{All, sum_by}
use Rattle.edit_ops.specs.Codes.{IsPutUnit, most_units}
use Rattle.edit_ops.proofs.codes.are_insertable_cells.Given as goal

abbrev pub invariant-loop-i : goal.invariant-loop-i
invariant-loop-i l = record {
  each : All (All IsPutUnit) (take l.i l.cells);
  units : l.units ≡ sum_by length (take l.i l.cells);
  few : l.units ≤ most_units;
}
