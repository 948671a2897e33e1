use Rattle.std.proofs.Common.{length, slice_index, sym, ap, ◌∙◌, subst, arith}
use Rattle.cfb_sectors.specs.Ends.{IsKnownEndAt, IsRingEnd}
use Rattle.cfb_sectors.proofs.ChainLemmas.{path_short}
use Rattle.cfb_sectors.proofs.EndLemmas.{not_known}
use Rattle.cfb_sectors.proofs.RingLemmas.{path_ring, fresh_turns}
use Rattle.cfb_sectors.proofs.ends.settle_ring.Goals as goal

pub count_from-count-requires : goal.count_from-count-requires
count_from-count-requires c =
    fresh_turns (λ s. slice_index c.args.entries.now s) (length c.args.ends.now.counts) c.args.ends.now
    (slice_index c.args.path.now 0)
    (slice_index c.args.entries.now c.last_sector-last.result) c.args.path.now c.requires.fresh
    (ap (λ k. slice_index c.args.entries.now k) c.last_sector-last.ensures)
    (omega (arith, c.len.ensures, c.if-next-len.false))
    (not_known c.args.ends.now (slice_index c.args.entries.now c.last_sector-last.result) c.get.result
    c.get.ensures (sym c.is_some.ensures ∙ c.if-is_some.false))

pub overflow_cast-count : goal.overflow_cast-count
overflow_cast-count c =
    let short = path_short _ _ _ _ c.requires.fresh.path in
    omega (arith, c.count_from-count.ensures.inside, c.requires.few)

pub remember_ring-requires-clause-ring : goal.remember_ring-requires-clause-ring
remember_ring-requires-clause-ring c =
    subst (λ l. IsRingEnd (λ s. slice_index c.args.entries.now s) (length c.args.ends.now.counts)
    (slice_index c.args.entries.now c.last_sector-last.result) (record { count = c.count_from-count.result; last = l }))
    (sym c.last_sector-last.ensures)
    (path_ring (λ s. slice_index c.args.entries.now s) (length c.args.ends.now.counts) (slice_index c.args.path.now 0)
    (slice_index c.args.entries.now c.last_sector-last.result) c.args.path.now c.count_from-count.result
    c.requires.fresh.path c.count_from-count.ensures.some c.count_from-count.ensures.inside
    c.count_from-count.ensures.here
    (sym (ap (λ k. slice_index c.args.entries.now k) c.last_sector-last.ensures)))

pub returns-clause-goes_on : goal.returns-clause-goes_on
returns-clause-goes_on c = λ less.
    subst (IsKnownEndAt c.remember_ring.new.ends) (ap (λ k. slice_index c.args.entries.now k)
    c.last_sector-last.ensures)
    c.remember_ring.ensures.known
