use Rattle.std.proofs.Common.{◌≡◌, ℕ, ◌-◌, ◌<◌, length, slice_index}
use Rattle.cfb_sectors.specs.Ends.{IsKnownEndAt}
use Rattle.cfb_sectors.proofs.ChainLemmas.{IsChainWalk, IsMet}
use Rattle.cfb_sectors.proofs.ends.walk_fresh.Given as goal

abbrev pub invariant-loop-at : goal.invariant-loop-at
invariant-loop-at l = record {
  walked : IsChainWalk (λ s. slice_index l.entries s) (length l.marks) l.start l.at l.path.items;
  met : IsMet l.marks l.path.items;
  kept : length l.marks ≡ length l.fn.marks;
  fresh : (i : ℕ) → i < length l.path.items → ¬ IsKnownEndAt l.ends (slice_index l.path.items i);
}

abbrev pub decreases-loop-at : goal.decreases-loop-at
decreases-loop-at l = length l.marks - length l.path.items
