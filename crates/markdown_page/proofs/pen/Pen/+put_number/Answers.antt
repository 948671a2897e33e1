use Rattle.std.proofs.Common.{arith}
use Rattle.markdown_page.proofs.TokenLemmas.{digit_put, digits_put}
use Rattle.markdown_page.proofs.pen.Pen.+put_number.Goals as goal

pub returns-then-number-lt10 : goal.returns-then-number-lt10
returns-then-number-lt10 g t c =
    digit_put g.K.Sink c.args.out.now c.put_digit.new.out c.args.self.now c.put_digit.new.self c.args.number
    c.if-number-lt10.true c.put_digit.ensures

pub returns : goal.returns
returns g t c =
    digits_put g.K.Sink c.args.out.now c.put_number.new.out c.put_digit-2.new.out c.args.self.now c.put_number.new.self
    c.put_digit-2.new.self c.args.number c.if-number-lt10.false (omega arith) c.put_number.ensures c.put_digit-2.ensures
