use Rattle.std.proofs.Common.{◌≡◌, ◌<◌, length, slice_index}
use Rattle.cfb_sectors.proofs.RingLemmas.{IsRingFront}
use Rattle.cfb_sectors.proofs.ends.remember_ring.Given as goal

abbrev pub invariant-loop-met : goal.invariant-loop-met
invariant-loop-met l = record {
  front : IsRingFront (λ s. slice_index l.entries s) (length l.fn.ends.counts) l.fn.ends l.ends l.start l.end l._met
      l.at l.last;
  inside : l.at < length l.fn.ends.counts;
  len : length l.ends.counts ≡ length l.fn.ends.counts;
}
