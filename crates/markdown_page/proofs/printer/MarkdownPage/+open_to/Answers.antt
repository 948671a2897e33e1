use Rattle.std.proofs.Common.{refl}
use Rattle.markdown_page.proofs.PutLemmas.{open_done, open_step}
use Rattle.markdown_page.proofs.printer.MarkdownPage.+open_to.Goals as goal

pub returns-in-None : goal.returns-in-None
returns-in-None g t c =
    open_done g.K.Sink c.args.out.now c.args.self.now (record c.args.self.now { path = c.open_next.new.self })
    c.args.to.now refl refl c.in-None.ensures.opened.0 refl c.in-None.ensures.opened.1

pub returns-in-Some : goal.returns-in-Some
returns-in-Some g t c =
    open_step g.K.Sink c.args.out.now c.put_open.new.out c.open_to.new.out c.args.self.now c.put_open.new.self
    c.open_to.new.self c.open_next.new.self c.args.to.now c.in-Some.element c.in-Some.ensures.opened
    c.in-Some.ensures.front c.put_open.ensures.puts c.put_open.ensures.path c.put_open.ensures.document
    c.put_open.ensures.context c.open_to.ensures
