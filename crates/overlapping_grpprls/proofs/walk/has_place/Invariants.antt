use Rattle.std.proofs.Common.{◌-◌, ◌≤◌, length}
use Rattle.overlapping_grpprls.proofs.walk.has_place.Given as goal

abbrev pub invariant-loop-low : goal.invariant-loop-low
invariant-loop-low l = record { ordered : l.low ≤ l.high; inside : l.high ≤ length l.places }

abbrev pub decreases-loop-low : goal.decreases-loop-low
decreases-loop-low l = l.high - l.low
