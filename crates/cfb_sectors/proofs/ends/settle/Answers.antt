use Rattle.std.proofs.Common.{◌<◌, length, slice_index, sym, subst, arith}
use Rattle.cfb_sectors.specs.Ends.{IsEnd, Remembers, GoesOnAtKnown}
use Rattle.cfb_sectors.proofs.ends.settle.Goals as goal

pub remember-requires : goal.remember-requires
remember-requires c =
    let len = c.settle_ring.ensures.remembers.counts_len in
    record {
      room = omega (arith, c.requires.room);
      few = omega (arith, c.requires.few);
      remembers = subst (λ n. Remembers (λ s. slice_index c.args.entries.now s) n c.settle_ring.new.ends) (sym len)
          c.settle_ring.ensures.remembers;
      within = λ i h. subst (λ n. slice_index c.args.path.now i < n) (sym len) (c.requires.fresh.path.within i h);
      links = c.requires.fresh.path.links;
      goes_on = subst (λ n. GoesOnAtKnown (λ s. slice_index c.args.entries.now s) n c.settle_ring.new.ends
          c.args.path.now)
          (sym len) c.settle_ring.ensures.goes_on;
    }

pub at-requires : goal.at-requires
at-requires c = c.remember.ensures.known 0 c.requires.fresh.path.some

pub returns-clause-end : goal.returns-clause-end
returns-clause-end c =
    let remembers = subst (λ n. Remembers (λ s. slice_index c.args.entries.now s) n c.remember.new.ends)
    c.settle_ring.ensures.remembers.counts_len c.remember.ensures.remembers in
    subst
    (IsEnd (λ s. slice_index c.args.entries.now s) (length c.args.ends.now.counts) (slice_index c.args.path.now 0))
    (sym c.at.ensures)
    (remembers.ends (slice_index c.args.path.now 0) (c.remember.ensures.known 0 c.requires.fresh.path.some))

pub returns-clause-remembers : goal.returns-clause-remembers
returns-clause-remembers c = subst (λ n. Remembers (λ s. slice_index c.args.entries.now s) n c.remember.new.ends)
    c.settle_ring.ensures.remembers.counts_len c.remember.ensures.remembers
