use Rattle.std.proofs.Common.{◌≡◌, ◌++◌, take}
use Rattle.std.specs.Prelude.{flat_map}
use Rattle.summary_set.specs.Written.{padded_value}
use Rattle.summary_set.proofs.written.print_values.Given as goal

-- the values so far
abbrev pub invariant-loop-property : goal.invariant-loop-property
invariant-loop-property l =
    l.bytes ≡ l.initial.bytes ++ flat_map (λ property. padded_value property.value) (take l.property-index l.values)
