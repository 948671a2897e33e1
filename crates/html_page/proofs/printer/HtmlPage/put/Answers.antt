use Rattle.std.proofs.Common.{◌≡◌, ◌++◌, ◌∷◌, [], List, ℕ, refl, sym, ap, subst, ◌∙◌, map, Option, None, Some}
use Rattle.view_paths.specs.Events.{turns}
use Rattle.view_places.specs.Same.{same}
use Rattle.view_places.specs.declared.glyph.Glyph.{Glyph}
use Rattle.html_page.specs.Printed.{PutsPlaces}
use Rattle.html_page.specs.Pages.{back_tokens, characters, close_tokens, front_tokens, glyph_tokens, half_of}
use Rattle.html_page.specs.Pages.{open_tokens}
use Rattle.html_page.specs.Pages.{other_tokens, style_tokens, tokens_of}
use Rattle.glyph_units.specs.Units.{unit_text, first_text, unit_half}
use Rattle.html_page.specs.declared.printer.HtmlPage.{HtmlPage}
use Rattle.page_out.specs.Printed.{Prints}
use Rattle.html_text.specs.Tokens.{Character, Token, printed}
use Rattle.html_page.proofs.PutLemmas.{close_done, close_step, open_done, open_step, other_glyph, other_half}
use Rattle.html_page.proofs.PutLemmas.{place_bare}
use Rattle.html_page.proofs.PutLemmas.{place_shown, tokens_then, unit_glyph, unit_glyph_half, way_put}
use Rattle.html_page.proofs.printer.HtmlPage.put.Goals as goal

pub returns-in-None : goal.returns-in-None
returns-in-None g c =
    let to = c.args.to.now in
    subst (λ (glyph : Option Glyph). PutsPlaces g.K.Sink c.args.out.now c.args.self.now c.go.new.out c.go.new.self
    (record {
      path = to;
      glyph = glyph;
    } ∷ [])) (sym c.in-None.is) (place_bare g.K.Sink c.args.out.now c.go.new.out c.args.self.now c.go.new.self to
    c.go.ensures)

pub returns-in-Some : goal.returns-in-Some
returns-in-Some g c =
    let to = c.args.to.now in
    subst (λ (glyph : Option Glyph). PutsPlaces g.K.Sink c.args.out.now c.args.self.now c.show.new.out c.show.new.self
    (record {
      path = to;
      glyph = glyph;
    } ∷ [])) (sym c.in-Some.is) (place_shown g.K.Sink c.args.out.now c.go.new.out c.show.new.out c.args.self.now
    c.go.new.self
    c.show.new.self to c.in-Some.glyph c.go.ensures c.show.ensures.prints c.show.ensures.path c.show.ensures.half
    c.show.ensures.source)
