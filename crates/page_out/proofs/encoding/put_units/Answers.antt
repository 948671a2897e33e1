use Rattle.std.proofs.Common.{◌≡◌, ◌++◌, take, arith}
use Rattle.page_out.proofs.EncodingLemmas.{encoded_more}
use Rattle.page_out.proofs.encoding.put_units.Goals as goal

pub loop-count-preserved : goal.loop-count-preserved
loop-count-preserved c =
    let old = c.loop-count in
    let put = c.put_unit-end in
    let within = c.loop-count-test.true in
    record {
      long = omega (arith, put.ensures.long, old.invariant.long);
      inside = omega (arith, within);
      room = put.ensures.room;
      start = λ same. absurd (omega (arith, same));
      bytes =
          encoded_more (take c.args.len c.args.block.now) c.args.units.now (take old.end old.block)
          (take put.result put.new.block) old.count (omega (arith, within)) old.invariant.bytes put.ensures.bytes;
    }
