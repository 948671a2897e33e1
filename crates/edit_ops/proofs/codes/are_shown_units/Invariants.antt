use Rattle.std.proofs.Common.{take}
use Rattle.std.specs.List.{All}
use Rattle.edit_ops.specs.Codes.{IsShownUnit}
use Rattle.edit_ops.proofs.codes.are_shown_units.Given as goal

abbrev pub invariant-loop-unit : goal.invariant-loop-unit
invariant-loop-unit l = All IsShownUnit (take l.unit-index l.units)
