use Rattle.std.proofs.Common.{◌-◌, ◌<◌, length, slice_index, refl, sym, subst, arith}
use Rattle.cfb_sectors.specs.Ends.{Remembers}
use Rattle.cfb_sectors.proofs.EndLemmas.{remembered_none, remembered_next, remember_step}
use Rattle.cfb_sectors.proofs.ends.remember.Goals as goal

pub loop-i-init : goal.loop-i-init
loop-i-init c = remembered_none (λ s. slice_index c.args.entries.now s) (length c.args.ends.now.counts) c.args.ends.now
    c.args.path.now c.requires.remembers

pub note-requires : goal.note-requires
note-requires c =
    let len = c.loop-i.invariant.remembers.counts_len in
    let low = c.requires.within (length c.args.path.now - 1 - c.loop-i.i) (omega (arith, c.loop-i-test.true)) in
    record {
      room = omega (arith, c.requires.room);
      few = omega (arith, c.requires.few);
      remembers = subst (λ n. Remembers (λ s. slice_index c.args.entries.now s) n c.loop-i.ends) (sym len)
          c.loop-i.invariant.remembers;
      inside = omega arith;
      goes_on = λ less. remembered_next (λ s. slice_index c.args.entries.now s) (length c.args.ends.now.counts)
          c.args.ends.now c.loop-i.ends c.args.path.now c.loop-i.i
          (slice_index c.args.path.now (length c.args.path.now - 1 - c.loop-i.i)) c.requires.links
          c.requires.goes_on c.loop-i-test.true refl c.loop-i.invariant
          (subst (λ n. slice_index c.args.entries.now
          (slice_index c.args.path.now (length c.args.path.now - 1 - c.loop-i.i)) < n) len less);
    }

pub loop-i-preserved : goal.loop-i-preserved
loop-i-preserved c =
    remember_step (λ s. slice_index c.args.entries.now s) (length c.args.ends.now.counts) c.args.ends.now c.loop-i.ends
    c.note.new.ends c.args.path.now c.loop-i.i
    (slice_index c.args.path.now (length c.args.path.now - 1 - c.loop-i.i)) c.loop-i-test.true refl
    c.loop-i.invariant
    (subst (λ n. Remembers (λ s. slice_index c.args.entries.now s) n c.note.new.ends)
    c.loop-i.invariant.remembers.counts_len c.note.ensures.remembers)
    c.note.ensures.kept c.note.ensures.known

pub returns-clause-known : goal.returns-clause-known
returns-clause-known c = λ i low. c.loop-i.invariant.behind i (omega arith) low
