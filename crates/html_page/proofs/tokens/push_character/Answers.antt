use Rattle.std.proofs.Common.{◌++◌, ◌∷◌, [], List, ℕ, sym, ap, ◌∙◌, append-nil}
use Rattle.std.specs.Prelude.{codes, if◌then◌else◌}
use Rattle.std.specs.Fmt.{decimal}
use Rattle.page_out.proofs.Public.{put_then, three_put}
use Rattle.html_text.specs.Tokens.{Character, escaped, printed}
use Rattle.html_page.specs.Pages.{back_tokens, characters, close_tokens, end, front_tokens, open_tokens, other_tokens}
use Rattle.html_page.specs.Pages.{style_tokens}
use Rattle.html_page.specs.Tags.{attributes_of, attributes_text, ends_line, element_name}
use Rattle.html_page.proofs.PutLemmas.{end_pieces, four_put, open_pieces, put_as, tokens_then}
use Rattle.html_page.proofs.tokens.push_character.Goals as goal

pub returns-in-Some : goal.returns-in-Some
returns-in-Some g c =
    put_as g.K.Sink c.args.out.now c.push_ascii.new.out c.args.page.now c.push_ascii.new.self c.in-Some.text.now
    (printed
    (Character c.args.code ∷ [])) (sym c.in-Some.ensures.is ∙ sym (append-nil (escaped c.args.code)))
    c.push_ascii.ensures

pub returns-in-None : goal.returns-in-None
returns-in-None g c =
    put_as g.K.Sink c.args.out.now c.push_char.new.out c.args.page.now c.push_char.new.self (c.args.code ∷ []) (printed
    (Character c.args.code ∷ [])) (sym c.in-None.ensures.is ∙ sym (append-nil (escaped c.args.code)))
    c.push_char.ensures
