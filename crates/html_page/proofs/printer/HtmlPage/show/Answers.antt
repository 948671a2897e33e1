use Rattle.std.proofs.Common.{◌≡◌, ◌++◌, ◌∷◌, [], List, ℕ, refl, sym, ap, subst, ◌∙◌, map, Option, None, Some}
use Rattle.view_paths.specs.Events.{turns}
use Rattle.view_places.specs.Same.{same}
use Rattle.html_page.specs.Pages.{back_tokens, characters, close_tokens, front_tokens, glyph_tokens, half_of}
use Rattle.html_page.specs.Pages.{open_tokens}
use Rattle.html_page.specs.Pages.{other_tokens, style_tokens, tokens_of}
use Rattle.glyph_units.specs.Units.{unit_text, first_text, unit_half}
use Rattle.html_page.specs.declared.printer.HtmlPage.{HtmlPage}
use Rattle.page_out.specs.Printed.{Prints}
use Rattle.doc_pictures.specs.Files.{image_files}
use Rattle.html_page.specs.declared.source.Source.{Source}
use Rattle.html_text.specs.Tokens.{Character, Token, printed}
use Rattle.html_page.proofs.PutLemmas.{close_done, close_step, open_done, open_step, other_glyph, other_half}
use Rattle.html_page.proofs.PutLemmas.{place_bare}
use Rattle.html_page.proofs.PutLemmas.{place_shown, tokens_then, unit_glyph, unit_glyph_half, way_put}
use Rattle.html_page.proofs.printer.HtmlPage.show.Goals as goal
use Rattle.text_codes.specs.Halves.{half_text}

pub returns-in-Some-clause-prints : goal.returns-in-Some-clause-prints
returns-in-Some-clause-prints g c =
    let old = c.args.self.now in
    subst (λ (tokens : List Token). Prints g.K.Sink c.args.out.now old.page c.put_unit.new.out
    c.put_unit.new.self.page (printed
    tokens)) (sym (unit_glyph (image_files old.source.images) old.half c.args.glyph c.in-Some.unit (sym
    c.unit_in.ensures ∙ c.in-Some.is)))
    c.put_unit.ensures.prints

pub returns-in-Some-clause-half : goal.returns-in-Some-clause-half
returns-in-Some-clause-half g c =
    c.put_unit.ensures.half ∙ sym (unit_glyph_half c.args.self.now.half c.args.glyph c.in-Some.unit (sym
    c.unit_in.ensures ∙
    c.in-Some.is))

pub returns-in-None-clause-prints : goal.returns-in-None-clause-prints
returns-in-None-clause-prints g c =
    let old = c.args.self.now in
    subst (λ (tokens : List Token). Prints g.K.Sink c.args.out.now old.page c.push_other.new.out c.push_other.new.page
    (printed
    tokens)) (sym (other_glyph (image_files old.source.images) old.half c.args.glyph (sym c.unit_in.ensures ∙
    c.in-None.is))) (tokens_then g.K.Sink
    c.args.out.now c.put_half.new.out c.push_other.new.out old.page c.put_half.new.self.page c.push_other.new.page
    (characters
    (half_text old.half)) (other_tokens (image_files old.source.images) c.args.glyph) c.put_half.ensures.prints
    (subst (λ (s : Source). Prints g.K.Sink c.put_half.new.out c.put_half.new.self.page c.push_other.new.out
    c.push_other.new.page (printed (other_tokens (image_files s.images) c.args.glyph))) c.put_half.ensures.source
    c.push_other.ensures))

pub returns-in-None-clause-half : goal.returns-in-None-clause-half
returns-in-None-clause-half g c =
    c.put_half.ensures.half ∙ sym (other_half c.args.self.now.half c.args.glyph (sym c.unit_in.ensures ∙ c.in-None.is))
