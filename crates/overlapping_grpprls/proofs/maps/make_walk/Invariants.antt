use Rattle.std.specs.List.{All}
use Rattle.overlapping_grpprls.specs.Keeping.{IsWalkedMap, IsKeeping}
use Rattle.overlapping_grpprls.proofs.maps.make_walk.Given as goal

abbrev pub invariant-loop-end : goal.invariant-loop-end
invariant-loop-end l = record {
  keeping : IsKeeping l.lists.stream.now l.lists.groups l.at l.places.items l.kept.items;
  made : All (IsWalkedMap l.lists.stream.now l.lists.groups) l.made.items;
}
