use Rattle.std.proofs.Common.{◌≡◌, ◌≤◌, ◌++◌}
use Rattle.property_sets.specs.Properties.{properties_of_set, properties_within}
use Rattle.property_sets.proofs.WalkLemmas.{pairs_from}
use Rattle.property_sets.proofs.property.properties.Given as goal

-- the properties of the pairs so far were read
abbrev pub invariant-loop-i : goal.invariant-loop-i
invariant-loop-i l = properties_of_set l.set ≡ l.found.items ++ properties_within l.set l.room (pairs_from l.set l.i)
