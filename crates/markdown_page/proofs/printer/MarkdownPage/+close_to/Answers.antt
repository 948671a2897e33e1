use Rattle.std.proofs.Common.{refl}
use Rattle.markdown_page.proofs.PutLemmas.{close_done, close_step}
use Rattle.markdown_page.proofs.printer.MarkdownPage.+close_to.Goals as goal

pub returns-in-None : goal.returns-in-None
returns-in-None g t c =
    close_done g.K.Sink c.args.out.now c.args.self.now (record c.args.self.now { path = c.close_next.new.self })
    c.args.shared refl refl c.in-None.ensures.0 refl c.in-None.ensures.1

pub returns-in-Some : goal.returns-in-Some
returns-in-Some g t c =
    close_step g.K.Sink c.args.out.now c.put_close.new.out c.close_to.new.out c.args.self.now c.put_close.new.self
    c.close_to.new.self c.close_next.new.self c.in-Some.element c.args.shared c.in-Some.ensures.0 c.in-Some.ensures.1
    c.put_close.ensures.puts c.put_close.ensures.path c.put_close.ensures.document c.put_close.ensures.context c.close_to.ensures
