use Rattle.std.proofs.Common.{sym, ◌∙◌, arith}
use Rattle.edit_script.proofs.HexLemmas.{one_step, no_byte, odd_end, even_end}
use Rattle.edit_script.proofs.hex.bytes_from_digits.Goals as goal

pub returns-in-None : goal.returns-in-None
returns-in-None c = no_byte c.args.digits.now c.loop-at.bytes c.loop-at.at (omega (arith, c.loop-at-test.true))
    (sym c.byte_of.ensures ∙ c.in-None.is) c.loop-at.invariant.1

pub loop-at-preserved : goal.loop-at-preserved
loop-at-preserved c = (
  omega (arith, c.loop-at-test.true),
  one_step c.args.digits.now c.loop-at.bytes c.add.new.bytes c.loop-at.at c.in-Some.byte (omega (
    arith,
    c.loop-at-test.true,
  )) (sym c.byte_of.ensures ∙ c.in-Some.is) c.in_ok-add-in-Some.ensures c.loop-at.invariant.1,
)

pub returns-then-at-digits : goal.returns-then-at-digits
returns-then-at-digits c = odd_end c.args.digits.now c.loop-at.bytes c.loop-at.at c.if-at-digits.true (omega (
  arith,
  c.loop-at-test.false,
)) c.loop-at.invariant.1

pub returns : goal.returns
returns c = even_end c.args.digits.now c.loop-at.bytes c.loop-at.at c.if-at-digits.false c.loop-at.invariant.1
