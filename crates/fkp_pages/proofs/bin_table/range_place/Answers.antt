use Rattle.std.proofs.Common.{◌+◌, ◌-◌, ◌/◌, arith}
use Rattle.fkp_pages.proofs.BinLemmas.{bin_fcs_ascend}
use Rattle.fkp_pages.proofs.bin_table.range_place.Goals as goal

-- the ranges from the middle on begin after the place
pub loop-low-preserved-then-fc-get32 : goal.loop-low-preserved-then-fc-get32
loop-low-preserved-then-fc-get32 c =
    let low = c.loop-low.low in
    let high = c.loop-low.high in
    record {
      order = omega arith;
      within = omega (arith, c.loop-low.invariant.within, c.loop-low-test.true);
      below = c.loop-low.invariant.below;
      above = λ k from h.
          let after = bin_fcs_ascend c.args.bin.now (low + (high - low) / 2) k c.requires from (omega arith) in
          omega (arith, after, c.if-fc-get32.true, c.get32.ensures);
    }

-- the ranges up to the middle end at or before the place
pub loop-low-preserved : goal.loop-low-preserved
loop-low-preserved c =
    let low = c.loop-low.low in
    let high = c.loop-low.high in
    record {
      order = omega (arith, c.loop-low-test.true);
      within = c.loop-low.invariant.within;
      below = λ k h.
          let before = bin_fcs_ascend c.args.bin.now (k + 1) (low + (high - low) / 2 + 1) c.requires (omega arith)
          (omega (arith, c.loop-low.invariant.within, c.loop-low-test.true)) in
          omega (arith, before, c.if-get32-fc.true, c.get32-else-fc-get32.ensures);
      above = c.loop-low.invariant.above;
    }
