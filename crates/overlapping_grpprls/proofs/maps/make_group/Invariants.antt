use Rattle.std.specs.List.{All}
use Rattle.overlapping_grpprls.specs.Keeping.{IsWalkedMap}
use Rattle.overlapping_grpprls.proofs.maps.make_group.Given as goal

abbrev pub invariant-loop-walk : goal.invariant-loop-walk
invariant-loop-walk l = All (IsWalkedMap l.lists.stream.now l.lists.groups) l.made.items
