use Rattle.std.proofs.Common.{◌+◌, ◌-◌, ◌/◌, arith}
use Rattle.doc_pictures.proofs.FileLemmas.{lower-half, upper-half}
use Rattle.doc_pictures.proofs.files.count_before.Goals as goal

pub loop-low-preserved-then-pictures-middle : goal.loop-low-preserved-then-pictures-middle
loop-low-preserved-then-pictures-middle c =
    let low = c.loop-low.low in
    let high = c.loop-low.high in
    let so_far = c.loop-low.invariant in
    record {
      ordered = omega (arith, c.loop-low-test.true);
      inside = so_far.inside;
      below = lower-half c.args.pictures.now c.args.place (low + (high - low) / 2) _ c.requires (omega (
        arith,
        c.loop-low-test.true,
        so_far.inside,
      )) c.if-pictures-middle.true;
      above = so_far.above;
    }

pub loop-low-preserved : goal.loop-low-preserved
loop-low-preserved c =
    let low = c.loop-low.low in
    let high = c.loop-low.high in
    let so_far = c.loop-low.invariant in
    record {
      ordered = omega arith;
      inside = omega (arith, c.loop-low-test.true, so_far.inside);
      below = so_far.below;
      above = upper-half c.args.pictures.now c.args.place (low + (high - low) / 2) _ c.requires (omega (
        arith,
        c.loop-low-test.true,
        so_far.inside,
      )) c.if-pictures-middle.false;
    }
