use Rattle.std.proofs.Common.{◌++◌, ◌∷◌, [], List, ℕ, Bool, sym, ap, ◌∙◌, append-nil}
use Rattle.std.specs.Prelude.{codes, if◌then◌else◌}
use Rattle.std.specs.Fmt.{decimal}
use Rattle.page_out.proofs.Public.{put_then, three_put}
use Rattle.html_text.specs.Tokens.{Character, escaped, printed}
use Rattle.html_page.specs.Pages.{back_tokens, characters, close_tokens, end, front_tokens, open_tokens, other_tokens}
use Rattle.html_page.specs.Pages.{style_tokens}
use Rattle.html_page.specs.Tags.{attributes_of, attributes_text, ends_line, element_name}
use Rattle.html_page.proofs.PutLemmas.{end_pieces, four_put, open_pieces, put_as, tokens_then}
use Rattle.html_page.proofs.tokens.push_end_line.Goals as goal

pub returns : goal.returns
returns g c =
    let e = c.args.element in
    let first = put_as g.K.Sink c.args.out.now c.push_end.new.out c.args.page.now c.push_end.new.page (printed (end
    c.name_of.result.now ∷ [])) (printed (end (element_name e) ∷ [])) (ap (λ (name : List ℕ). printed (end name ∷ []))
    c.name_of.ensures.is) c.push_end.ensures in
    let second = put_as g.K.Sink c.push_end.new.out c.push_line.new.out c.push_end.new.page c.push_line.new.page
    (printed (if
    c.ends_line.result then Character 10 ∷ [] else [])) (printed (if ends_line e then Character 10 ∷ [] else [])) (ap
    (λ (b :
    Bool). printed (if b then Character 10 ∷ [] else [])) c.ends_line.ensures) c.push_line.ensures in
    tokens_then g.K.Sink c.args.out.now c.push_end.new.out c.push_line.new.out c.args.page.now c.push_end.new.page
    c.push_line.new.page (end (element_name e) ∷ []) (if ends_line e then Character 10 ∷ [] else []) first second
