use Rattle.std.proofs.Common.{◌≡◌, ◌++◌, take}
use Rattle.full_save.specs.WordDocument.{units_bytes}
use Rattle.full_save.proofs.pages.append_units.Given as goal

abbrev pub invariant-loop-unit : goal.invariant-loop-unit
invariant-loop-unit l = l.out ≡ l.fn.out ++ units_bytes (take l.unit-index l.units)
