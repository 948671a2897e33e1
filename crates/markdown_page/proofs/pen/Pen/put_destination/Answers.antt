use Rattle.std.proofs.Common.{refl}
use Rattle.markdown_page.proofs.TokenLemmas.{destination_put}
use Rattle.markdown_text.specs.declared.line.LineState.TheVariants.{Within}
use Rattle.markdown_page.proofs.pen.Pen.put_destination.Goals as goal

pub returns : goal.returns
returns g c =
    destination_put g.K.Sink c.args.out.now c.push_ascii.new.out c.put_url.new.out c.push_ascii-2.new.out
    c.args.self.now c.push_ascii.new.self c.put_url.new.self.page c.push_ascii-2.new.self Within c.args.url
    c.push_ascii.ensures c.put_url.ensures.prints c.push_ascii-2.ensures refl
