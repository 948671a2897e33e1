use Rattle.std.proofs.Common.{◌++◌, ◌∷◌, [], sym, append-nil}
use Rattle.std.specs.Prelude.{codes}
use Rattle.page_out.proofs.Public.{three_put}
use Rattle.html_text.specs.Tokens.{escaped_text}
use Rattle.html_page.specs.Tags.{attribute, attributes_text}
use Rattle.html_page.proofs.PutLemmas.{put_as}
use Rattle.html_page.proofs.attributes.push_href.Goals as goal

pub returns : goal.returns
returns g c =
    let value = escaped_text c.args.url in
    let text = codes " href=\"" ++ (value ++ 34 ∷ []) in
    put_as g.K.Sink c.args.out.now c.push_ascii-2.new.out c.args.page.now c.push_ascii-2.new.self text (text ++ []) (sym
    (append-nil text))
    (three_put g.K.Sink c.args.out.now c.push_ascii.new.out c.push_value.new.out c.push_ascii-2.new.out
    c.args.page.now c.push_ascii.new.self c.push_value.new.page c.push_ascii-2.new.self (codes " href=\"") value (34 ∷ [])
    c.push_ascii.ensures c.push_value.ensures c.push_ascii-2.ensures)
