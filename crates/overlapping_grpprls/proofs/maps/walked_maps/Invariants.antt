use Rattle.std.proofs.Common.{◌-◌, length}
use Rattle.std.specs.List.{All}
use Rattle.overlapping_grpprls.specs.Keeping.{IsWalkedMap}
use Rattle.overlapping_grpprls.proofs.maps.walked_maps.Given as goal

abbrev pub invariant-loop-first : goal.invariant-loop-first
invariant-loop-first l = All (IsWalkedMap l.lists.stream.now l.lists.groups) l.made.items

abbrev pub decreases-loop-first : goal.decreases-loop-first
decreases-loop-first l = length l.begins.items - l.first
