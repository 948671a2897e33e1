use Rattle.std.proofs.Common.{◌≡◌, length}
use Rattle.std.specs.Ordering.{nat_cmp}
use Rattle.std.specs.FinMap.{find, entries}
use Rattle.prop_map.proofs.map.PropMap.get.Given as goal

-- what is left says what the map says at the code
abbrev pub invariant-loop-other : goal.invariant-loop-other
invariant-loop-other l = find nat_cmp l.code.0 (entries l.self) ≡ find nat_cmp l.code.0 l.left

abbrev pub decreases-loop-other : goal.decreases-loop-other
decreases-loop-other l = length l.left
