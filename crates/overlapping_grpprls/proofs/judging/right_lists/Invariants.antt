use Rattle.std.proofs.Common.{◌-◌, length}
use Rattle.std.specs.List.{All}
use Rattle.overlapping_grpprls.specs.Walks.{IsAcceptedRange}
use Rattle.overlapping_grpprls.proofs.judging.right_lists.Given as goal

abbrev pub invariant-loop-first : goal.invariant-loop-first
invariant-loop-first l = All (IsAcceptedRange l.lists.stream.now l.lists.groups) l.right.items

abbrev pub decreases-loop-first : goal.decreases-loop-first
decreases-loop-first l = length l.begins.items - l.first
