-- The header texts, one by one.
use Rattle.std.proofs.Common.{arith}
use Rattle.doc_bits.proofs.Public.{there_is}
use Rattle.doc_view.specs.declared.reading.TextKind.TheVariants as text_kind
use Rattle.doc_view.proofs.HeaderLemmas.{header_on, headers_put, headers_start}
use Rattle.doc_view.proofs.headers.Headers.push.Goals as goal

pub loop-number-init : goal.loop-number-init
loop-number-init g c = λ formats are.
    headers_start g.K.Sink c.args.out.now c.args.page.now formats
    (record { hidden = c.args.self.now.hidden; kind = text_kind.Header; fonts = c.args.self.now.fonts }) c.args.self.now.texts.now

pub loop-number-preserved : goal.loop-number-preserved
loop-number-preserved g c = λ formats are.
    let texts = c.args.self.now.texts.now in
    let old = c.loop-number in
    let put = c.push_header-begun in
    let text = there_is texts old.number (omega arith) in
    header_on g.K.Sink c.args.out.now c.args.page.now old.out old.page put.new.out put.new.page formats
    (record { hidden = c.args.self.now.hidden; kind = text_kind.Header; fonts = c.args.self.now.fonts }) old.begun put.result old.number texts text.0
    (old.invariant formats are) text.1 (put.ensures.text formats text.0 are text.1)
    (put.ensures.begun formats text.0 are text.1)

pub returns : goal.returns
returns g c = λ formats are.
    let texts = c.args.self.now.texts.now in
    let old = c.loop-number in
    headers_put g.K.Sink c.args.out.now c.args.page.now old.out old.page formats
    (record { hidden = c.args.self.now.hidden; kind = text_kind.Header; fonts = c.args.self.now.fonts }) old.begun old.number texts
    (omega (arith, c.loop-number-test.false)) (old.invariant formats are)
