use Rattle.std.proofs.Common.{take}
use Rattle.std.specs.List.{All}
use Rattle.edit_ops.specs.Codes.{IsPutUnit}
use Rattle.edit_ops.proofs.codes.are_insertable_units.Given as goal

abbrev pub invariant-loop-unit : goal.invariant-loop-unit
invariant-loop-unit l = All IsPutUnit (take l.unit-index l.units)
