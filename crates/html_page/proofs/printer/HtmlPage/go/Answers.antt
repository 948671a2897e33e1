use Rattle.std.proofs.Common.{◌≡◌, ◌++◌, ◌∷◌, [], List, ℕ, refl, sym, ap, subst, ◌∙◌, map, Option, None, Some}
use Rattle.view_paths.specs.Events.{turns}
use Rattle.view_places.specs.Same.{same}
use Rattle.html_page.specs.Pages.{back_tokens, characters, close_tokens, front_tokens, glyph_tokens, half_of}
use Rattle.html_page.specs.Pages.{open_tokens}
use Rattle.html_page.specs.Pages.{other_tokens, style_tokens, tokens_of}
use Rattle.glyph_units.specs.Units.{unit_text, first_text, unit_half}
use Rattle.html_page.specs.declared.printer.HtmlPage.{HtmlPage}
use Rattle.page_out.specs.Printed.{Prints}
use Rattle.html_text.specs.Tokens.{Character, Token, printed}
use Rattle.html_page.proofs.PutLemmas.{close_done, close_step, open_done, open_step, other_glyph, other_half}
use Rattle.html_page.proofs.PutLemmas.{place_bare}
use Rattle.html_page.proofs.PutLemmas.{place_shown, tokens_then, unit_glyph, unit_glyph_half, way_put}
use Rattle.view_paths.specs.Turns.{IsFront}
use Rattle.view_places.specs.declared.element.Element.{Element}
use Rattle.html_page.proofs.printer.HtmlPage.go.Goals as goal
use Rattle.view_places.proofs.Public.{shared_is_front}

pub open_to-requires : goal.open_to-requires
open_to-requires g c =
    let from = c.args.self.now.path in
    let to = c.args.to.now in
    subst (λ (path : List Element). IsFront path to) (sym c.close_to.ensures.path) (shared_is_front from to
    c.shared-shared.result
    c.shared-shared.ensures)

pub returns : goal.returns
returns g c =
    way_put g.K.Sink c.args.out.now c.close_to.new.out c.open_to.new.out c.args.self.now c.close_to.new.self
    c.open_to.new.self c.args.to.now c.shared-shared.result c.shared-shared.ensures c.close_to.ensures c.open_to.ensures
