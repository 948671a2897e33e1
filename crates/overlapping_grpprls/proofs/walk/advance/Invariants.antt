use Rattle.std.proofs.Common.{◌-◌, length}
use Rattle.overlapping_grpprls.specs.Walks.{IsPrlWalk}
use Rattle.overlapping_grpprls.proofs.walk.advance.Given as goal

abbrev pub invariant-loop-entry : goal.invariant-loop-entry
invariant-loop-entry l = IsPrlWalk l.lists.stream.now l.lists.groups l.here l.places.items

abbrev pub decreases-loop-entry : goal.decreases-loop-entry
decreases-loop-entry l = length l.lists.stream.now - l.here
