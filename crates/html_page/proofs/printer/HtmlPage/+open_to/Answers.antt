use Rattle.std.proofs.Common.{◌≡◌, ◌++◌, ◌∷◌, [], List, ℕ, refl, sym, ap, subst, ◌∙◌, map, Option, None, Some}
use Rattle.view_paths.specs.Events.{turns}
use Rattle.view_places.specs.Same.{same}
use Rattle.html_page.specs.Pages.{back_tokens, characters, close_tokens, front_tokens, glyph_tokens, half_of}
use Rattle.html_page.specs.Pages.{open_tokens}
use Rattle.html_page.specs.Pages.{other_tokens, style_tokens, tokens_of}
use Rattle.glyph_units.specs.Units.{unit_text, first_text, unit_half}
use Rattle.html_page.specs.declared.printer.HtmlPage.{HtmlPage}
use Rattle.page_out.specs.Printed.{Prints}
use Rattle.html_text.specs.Tokens.{Character, Token, printed}
use Rattle.html_page.proofs.PutLemmas.{close_done, close_step, open_done, open_step, other_glyph, other_half}
use Rattle.html_page.proofs.PutLemmas.{place_bare}
use Rattle.html_page.proofs.PutLemmas.{place_shown, tokens_then, unit_glyph, unit_glyph_half, way_put}
use Rattle.html_page.proofs.printer.HtmlPage.+open_to.Goals as goal

pub returns-in-None : goal.returns-in-None
returns-in-None g t c =
    open_done g.K.Sink c.args.out.now c.args.self.now (record c.args.self.now { path = c.open_next.new.self })
    c.args.to.now
    refl refl c.in-None.ensures.opened.0 refl c.in-None.ensures.opened.1

pub returns-in-Some : goal.returns-in-Some
returns-in-Some g t c =
    open_step g.K.Sink c.args.out.now c.put_open.new.out c.open_to.new.out c.args.self.now c.put_open.new.self
    c.open_to.new.self c.open_next.new.self c.args.to.now c.in-Some.element c.in-Some.ensures.opened
    c.in-Some.ensures.front
    c.put_open.ensures.prints c.put_open.ensures.path c.put_open.ensures.half c.put_open.ensures.source c.open_to.ensures
