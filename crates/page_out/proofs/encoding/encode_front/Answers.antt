use Rattle.std.proofs.Common.{take, arith}
use Rattle.page_out.proofs.EncodingLemmas.{encoded_front}
use Rattle.page_out.proofs.encoding.encode_front.Goals as goal
use Rattle.doc_bits.proofs.Public.{part_within}

pub loop-count-preserved : goal.loop-count-preserved
loop-count-preserved c =
    let old = c.loop-count in
    let part = c.encode_part-more in
    let units = c.args.units.now in
    let some = part.ensures.some in
    record {
      long = omega (arith, part.ensures.long, old.invariant.long);
      inside = part_within units old.count part.result.0 old.invariant.inside part.ensures.inside;
      room = part.ensures.room;
      start = λ same. absurd (omega (arith, same, some));
      bytes =
          encoded_front units (take old.len old.block) (take part.result.1 part.new.block) old.count part.result.0
          old.invariant.bytes part.ensures.bytes;
    }
