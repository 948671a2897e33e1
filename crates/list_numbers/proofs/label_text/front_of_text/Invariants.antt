use Rattle.std.proofs.Common.{◌≡◌, ◌-◌, ◌≤◌, length, take, slice_index}
use Rattle.std.specs.List.{flat_map}
use Rattle.list_numbers.specs.Numbers.{placed_unit}
use Rattle.list_numbers.proofs.label_text.front_of_text.Given as goal

-- the units so far
abbrev pub invariant-loop-i : goal.invariant-loop-i
invariant-loop-i l = record {
  within : l.i ≤ length l.text;
  units : l.units ≡ flat_map (placed_unit l.levels l.own (λ level. slice_index l.counts level)) (take l.i l.text);
}

abbrev pub decreases-loop-i : goal.decreases-loop-i
decreases-loop-i l = length l.text - l.i
