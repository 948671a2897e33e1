use Rattle.page_out.proofs.PrintLemmas.{ascii_put}
use Rattle.page_out.proofs.page.Page.push_ascii.Goals as goal

pub returns : goal.returns
returns g c =
    ascii_put g.K.Sink c.args.out.now c.push.new.out c.args.self.now c.push.new.self c.args.bytes.now c.requires
    c.push.ensures
