use Rattle.std.proofs.Common.{◌≡◌, Some, map, take}
use Rattle.symbol_fonts.specs.Characters.{shown_unit}
use Rattle.list_numbers.proofs.labels.in_font.Given as goal

-- the units so far
abbrev pub invariant-loop-unit : goal.invariant-loop-unit
invariant-loop-unit l = l.shown ≡ map (shown_unit (Some l.font)) (take l.unit-index l.units)
