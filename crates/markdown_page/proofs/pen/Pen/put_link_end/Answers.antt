use Rattle.std.proofs.Common.{◌∷◌, []}
use Rattle.markdown_text.specs.Tokens.{Destination, Markup}
use Rattle.markdown_page.proofs.TokenLemmas.{tokens_then}
use Rattle.markdown_page.proofs.pen.Pen.put_link_end.Goals as goal

pub returns : goal.returns
returns g c =
    tokens_then g.K.Sink c.args.out.now c.put_markup.new.out c.put_destination.new.out c.args.self.now
    c.put_markup.new.self c.put_destination.new.self (Markup 93 ∷ []) (Destination c.args.url ∷ []) c.put_markup.ensures
    c.put_destination.ensures
