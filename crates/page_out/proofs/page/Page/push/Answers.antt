use Rattle.page_out.proofs.PrintLemmas.{flag_put, put_nothing}
use Rattle.page_out.proofs.page.Page.push.Goals as goal

pub returns-then-self : goal.returns-then-self
returns-then-self g c = put_nothing g.K.Sink c.args.out.now c.args.self.now c.args.bytes.now (cc)

pub returns : goal.returns
returns g c =
    let put = c.push-taken in
    flag_put g.K.Sink c.args.out.now put.new.out c.args.self.now put.new.self c.args.bytes.now put.result
    c.is_err-self.result c.is_err-self.ensures.value (cc) put.ensures.ok put.ensures.err put.ensures.failed
    put.ensures.faults
