use Rattle.std.proofs.Common.{arith}
use Rattle.text_codes.proofs.GatherLemmas.{plain_text}
use Rattle.text_codes.proofs.gathering.gather_part.Goals as goal

pub returns-then-are_plain-clause-text : goal.returns-then-are_plain-clause-text
returns-then-are_plain-clause-text c = record {
  bytes = _;
  text =
      plain_text c.args.lines c.args.units.now 16 (omega arith) (c.are_plain.ensures c.if-are_plain.true);
  grown = c.put_plain.ensures.bytes;
  room = omega (arith, c.requires, c.put_plain.ensures.long);
}
