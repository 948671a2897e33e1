use Rattle.std.proofs.Common.{length, slice_index, ◌+◌, refl, sym, subst, arith}
use Rattle.cfb_sectors.proofs.RingLemmas.{IsRingFront, ring_none, ring_inside, ring_step, ring_done, ring_known}
use Rattle.cfb_sectors.proofs.ends.remember_ring.Goals as goal

pub loop-met-init : goal.loop-met-init
loop-met-init c =
    let front = ring_none (λ s. slice_index c.args.entries.now s) (length c.args.ends.now.counts) c.args.ends.now
    c.args.start c.args.end c.requires.remembers c.requires.ring in
    record {
      front = front;
      inside = ring_inside (λ s. slice_index c.args.entries.now s) (length c.args.ends.now.counts) c.args.ends.now
          c.args.ends.now c.args.start c.args.end 0 c.args.start
          c.args.end.last front;
      len = refl;
    }

pub loop-met-preserved : goal.loop-met-preserved
loop-met-preserved c =
    let front = subst
    (λ k. IsRingFront (λ s. slice_index c.args.entries.now s) (length c.args.ends.now.counts) c.args.ends.now k
    c.args.start c.args.end (c.loop-met._met + 1)
    (slice_index c.args.entries.now c.loop-met.at) c.loop-met.at) (sym c.put.ensures)
    (ring_step (λ s. slice_index c.args.entries.now s) (length c.args.ends.now.counts) c.args.ends.now c.loop-met.ends
    c.args.start c.args.end c.loop-met._met c.loop-met.at
    c.loop-met.last c.loop-met-test.true c.loop-met.invariant.front) in
    record {
      front = front;
      inside = ring_inside (λ s. slice_index c.args.entries.now s) (length c.args.ends.now.counts) c.args.ends.now
          c.put.new.self c.args.start c.args.end (c.loop-met._met + 1)
          (slice_index c.args.entries.now c.loop-met.at) c.loop-met.at front;
      len = front.counts_len;
    }

pub returns-clause-remembers : goal.returns-clause-remembers
returns-clause-remembers c = ring_done (λ s. slice_index c.args.entries.now s) (length c.args.ends.now.counts)
    c.args.ends.now c.loop-met.ends c.args.start c.args.end
    c.loop-met._met c.loop-met.at c.loop-met.last (omega (arith, c.loop-met-test.false)) c.requires.remembers
    c.loop-met.invariant.front

pub returns-clause-known : goal.returns-clause-known
returns-clause-known c = ring_known (λ s. slice_index c.args.entries.now s) (length c.args.ends.now.counts)
    c.args.ends.now c.loop-met.ends c.args.start c.args.end
    c.loop-met._met c.loop-met.at c.loop-met.last (omega (arith, c.loop-met-test.false))
    c.loop-met.invariant.front
