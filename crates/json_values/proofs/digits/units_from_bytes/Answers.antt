use Rattle.std.proofs.Common.{arith}
use Rattle.json_values.proofs.DigitLemmas.{one_step, odd_end, even_end}
use Rattle.json_values.proofs.digits.units_from_bytes.Goals as goal

pub loop-at-preserved : goal.loop-at-preserved
loop-at-preserved c = (
  omega (arith, c.loop-at-test.true),
  one_step c.args.bytes.now c.loop-at.units c.add.new.units c.loop-at.at (omega (arith, c.loop-at-test.true))
      c.in_ok-add.ensures c.loop-at.invariant.1,
)

pub returns-then-at-bytes : goal.returns-then-at-bytes
returns-then-at-bytes c = odd_end c.args.bytes.now c.loop-at.units c.loop-at.at c.if-at-bytes.true (omega (
  arith,
  c.loop-at-test.false,
)) c.loop-at.invariant.1

pub returns : goal.returns
returns c = even_end c.args.bytes.now c.loop-at.units c.loop-at.at c.if-at-bytes.false c.loop-at.invariant.1
