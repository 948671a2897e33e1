use Rattle.std.proofs.Common.{◌++◌, ◌∷◌, [], List, ℕ, sym, ap, ◌∙◌, append-nil}
use Rattle.std.specs.Prelude.{codes, if◌then◌else◌}
use Rattle.std.specs.Fmt.{decimal}
use Rattle.page_out.proofs.Public.{put_then, three_put}
use Rattle.html_text.specs.Tokens.{Character, escaped, printed}
use Rattle.html_page.specs.Pages.{back_tokens, characters, close_tokens, end, front_tokens, other_tokens, start_tokens}
use Rattle.html_page.specs.Pages.{style_tokens}
use Rattle.html_page.specs.Tags.{attributes_of, attributes_text, ends_line, element_name}
use Rattle.html_page.proofs.PutLemmas.{end_pieces, four_put, open_pieces, put_as, tokens_then}
use Rattle.html_page.proofs.tokens.push_start.Goals as goal

pub returns : goal.returns
returns g c =
    let e = c.args.element in
    let name = element_name e in
    let attributes = attributes_text (attributes_of c.args.document.now e) in
    put_as g.K.Sink c.args.out.now c.push_ascii-3.new.out c.args.page.now c.push_ascii-3.new.self ((60 ∷ []) ++ (name ++
    (attributes ++ 62 ∷ []))) (printed (start_tokens c.args.document.now e)) (open_pieces name attributes)
    (four_put g.K.Sink c.args.out.now c.push_ascii.new.out c.push_ascii-2.new.out c.push_attributes.new.out
    c.push_ascii-3.new.out c.args.page.now c.push_ascii.new.self c.push_ascii-2.new.self c.push_attributes.new.page
    c.push_ascii-3.new.self (60 ∷ []) (name) (attributes) (62 ∷ []) c.push_ascii.ensures (put_as g.K.Sink
    c.push_ascii.new.out c.push_ascii-2.new.out c.push_ascii.new.self c.push_ascii-2.new.self c.name_of.result.now
    name c.name_of.ensures.is c.push_ascii-2.ensures) c.push_attributes.ensures c.push_ascii-3.ensures)
