use Rattle.std.specs.List.{All}
use Rattle.overlapping_grpprls.specs.Walks.{IsAcceptedRange}
use Rattle.overlapping_grpprls.proofs.judging.check_group.Given as goal

abbrev pub invariant-loop-walk : goal.invariant-loop-walk
invariant-loop-walk l = All (IsAcceptedRange l.lists.stream.now l.lists.groups) l.right.items
