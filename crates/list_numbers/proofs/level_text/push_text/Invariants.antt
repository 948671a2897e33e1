use Rattle.std.proofs.Common.{◌≡◌, ◌++◌, take, slice_index}
use Rattle.std.specs.List.{flat_map}
use Rattle.list_numbers.specs.Numbers.{placed_unit}
use Rattle.list_numbers.proofs.level_text.push_text.Given as goal

abbrev pub invariant-loop-unit : goal.invariant-loop-unit
invariant-loop-unit l = l.units ≡ l.fn.units ++ flat_map (placed_unit l.levels l.own (λ level. slice_index l.counts
    level)) (take l.unit-index l.text)
