use Rattle.std.proofs.Common.{◌-◌, length}
use Rattle.cfb_directory.specs.Seen.{IsSeen}
use Rattle.cfb_directory.proofs.ReachLemmas.{IsClosedTo}
use Rattle.cfb_directory.proofs.directory.reach_all.Given as goal

abbrev pub invariant-loop-next : goal.invariant-loop-next
invariant-loop-next l = record {
  seen : IsSeen l.order.items l.seen;
  closed : IsClosedTo l.file l.directory l.order.items l.next;
}

abbrev pub decreases-loop-next : goal.decreases-loop-next
decreases-loop-next l = length l.seen - l.next
