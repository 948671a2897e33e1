use Rattle.std.proofs.Common.{◌+◌, ◌-◌, ◌/◌, arith}
use Rattle.prop_map.proofs.ValueLemmas.{lower_half, upper_half}
use Rattle.prop_map.proofs.values.lesser_count.Goals as goal

pub loop-low-preserved-then-values-middle : goal.loop-low-preserved-then-values-middle
loop-low-preserved-then-values-middle c =
    let low = c.loop-low.low in
    let high = c.loop-low.high in
    let so_far = c.loop-low.invariant in
    record {
      ordered = omega (arith, c.loop-low-test.true);
      inside = so_far.inside;
      below = lower_half c.args.values.now c.args.code.0 (low + (high - low) / 2) _ c.requires (omega (
        arith,
        c.loop-low-test.true,
        so_far.inside,
      )) c.if-values-middle.true;
      above = so_far.above;
    }

pub loop-low-preserved : goal.loop-low-preserved
loop-low-preserved c =
    let low = c.loop-low.low in
    let high = c.loop-low.high in
    let so_far = c.loop-low.invariant in
    record {
      ordered = omega arith;
      inside = omega (arith, c.loop-low-test.true, so_far.inside);
      below = so_far.below;
      above = upper_half c.args.values.now c.args.code.0 (low + (high - low) / 2) _ c.requires (omega (
        arith,
        c.loop-low-test.true,
        so_far.inside,
      )) c.if-values-middle.false;
    }
