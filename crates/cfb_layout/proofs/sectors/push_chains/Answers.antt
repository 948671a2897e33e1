use Rattle.std.proofs.Common.{slice_index, refl, sym, arith}
use Rattle.std.proofs.lemmas.List.{append-nil}
use Rattle.cfb_layout.specs.Sectors.{chains_from}
use Rattle.cfb_layout.proofs.SectorLemmas.{start_next}
use Rattle.cfb_layout.proofs.WritingLemmas.{chains_step}
use Rattle.cfb_layout.proofs.sectors.push_chains.Goals as goal

pub loop-count-init : goal.loop-count-init
unfolding chains_from
loop-count-init c = record { bytes = sym (append-nil c.args.out.now); here = refl }

pub loop-count-preserved : goal.loop-count-preserved
loop-count-preserved c =
    let low = c.loop-count-test.true in
    let here = c.loop-count.invariant.here in
    record {
      bytes = chains_step c.args.out.now c.loop-count.out c.push_chain.new.out c.args.counts.now
          c.loop-count.count-index c.loop-count.start (slice_index c.args.counts.now c.loop-count.count-index)
          c.loop-count.invariant.bytes c.in_ok-push_chain.ensures low refl here;
      here = let next = start_next c.args.counts.now c.loop-count.count-index low in omega arith;
    }
