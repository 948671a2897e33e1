use Rattle.std.proofs.Common.{◌-◌, length}
use Rattle.overlapping_grpprls.specs.Keeping.{IsKeeping}
use Rattle.overlapping_grpprls.proofs.keeping.advance_recording.Given as goal

abbrev pub invariant-loop-entry : goal.invariant-loop-entry
invariant-loop-entry l = IsKeeping l.lists.stream.now l.lists.groups l.here l.places.items l.kept.items

abbrev pub decreases-loop-entry : goal.decreases-loop-entry
decreases-loop-entry l = length l.lists.stream.now - l.here
