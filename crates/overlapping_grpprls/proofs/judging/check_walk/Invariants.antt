use Rattle.std.specs.List.{All}
use Rattle.overlapping_grpprls.specs.Walks.{IsAcceptedRange, IsPrlWalk}
use Rattle.overlapping_grpprls.proofs.judging.check_walk.Given as goal

abbrev pub invariant-loop-end : goal.invariant-loop-end
invariant-loop-end l = record {
  walk : IsPrlWalk l.lists.stream.now l.lists.groups l.at l.places.items;
  right : All (IsAcceptedRange l.lists.stream.now l.lists.groups) l.right.items;
}
