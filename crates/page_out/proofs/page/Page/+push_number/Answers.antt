use Rattle.std.proofs.Common.{arith}
use Rattle.page_out.proofs.PrintLemmas.{digit_put, digits_put}
use Rattle.page_out.proofs.page.Page.+push_number.Goals as goal

pub returns-then-number-lt10 : goal.returns-then-number-lt10
returns-then-number-lt10 g t c =
    digit_put g.K.Sink c.args.out.now c.push_digit.new.out c.args.self.now c.push_digit.new.self c.args.number
    c.if-number-lt10.true c.push_digit.ensures

pub returns : goal.returns
returns g t c =
    digits_put g.K.Sink c.args.out.now c.push_number.new.out c.push_digit-2.new.out c.args.self.now
    c.push_number.new.self c.push_digit-2.new.self c.args.number c.if-number-lt10.false (omega arith)
    c.push_number.ensures c.push_digit-2.ensures
