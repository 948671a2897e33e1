use Rattle.std.proofs.Common.{arith}
use Rattle.text_codes.proofs.GatherLemmas.{text_grown}
use Rattle.text_codes.proofs.gathering.gather.Goals as goal
use Rattle.doc_bits.proofs.Public.{part_within}

pub loop-count-preserved : goal.loop-count-preserved
loop-count-preserved c = record {
  inside = part_within c.args.units.now c.loop-count.count c.gather_part-more.result.0 (omega arith)
      c.gather_part-more.ensures.inside;
  room = c.gather_part-more.ensures.text.room;
  text =
      text_grown c.args.lines c.args.units.now c.loop-count.block c.gather_part-more.new.block c.loop-count.count
      c.gather_part-more.result.0 c.loop-count.len c.gather_part-more.result.1 c.loop-count.invariant.text
      c.gather_part-more.ensures.text;
}

pub returns-then-more-eq0-clause-text : goal.returns-then-more-eq0-clause-text
returns-then-more-eq0-clause-text c =
    text_grown c.args.lines c.args.units.now c.loop-count.block c.gather_part-more.new.block c.loop-count.count
    c.gather_part-more.result.0 c.loop-count.len c.gather_part-more.result.1 c.loop-count.invariant.text
    c.gather_part-more.ensures.text
