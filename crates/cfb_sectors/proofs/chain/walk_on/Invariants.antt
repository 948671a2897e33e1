use Rattle.std.proofs.Common.{◌≡◌, ◌-◌, length, slice_index}
use Rattle.cfb_sectors.specs.Marks.{IsVisitedSince}
use Rattle.cfb_sectors.specs.Walk.{IsChainWalk}
use Rattle.cfb_sectors.proofs.chain.walk_on.Given as goal

abbrev pub invariant-loop-at : goal.invariant-loop-at
invariant-loop-at l = record {
  walked : IsChainWalk (λ s. slice_index l.entries s) (length l.marks) l.start l.at l.path.items;
  met : IsVisitedSince l.fn.marks l.marks l.path.items;
  kept : length l.marks ≡ length l.fn.marks;
}

abbrev pub decreases-loop-at : goal.decreases-loop-at
decreases-loop-at l = length l.marks - length l.path.items
