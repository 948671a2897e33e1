use Rattle.std.proofs.Common.{◌≡◌, ◌++◌, ◌∷◌, [], List, ℕ, refl, sym, ap, subst, ◌∙◌, map, Option, None, Some}
use Rattle.view_paths.specs.Events.{turns}
use Rattle.view_places.specs.Same.{same}
use Rattle.view_places.specs.declared.element.Element.{Element}
use Rattle.html_page.specs.Pages.{Events}
use Rattle.html_page.specs.Printed.{PutsEvents}
use Rattle.html_page.specs.Sources.{page_source_of}
use Rattle.html_page.specs.Pages.{back_tokens, characters, close_tokens, front_tokens, glyph_tokens, half_of}
use Rattle.html_page.specs.Pages.{open_tokens}
use Rattle.html_page.specs.Pages.{other_tokens, style_tokens, tokens_of}
use Rattle.glyph_units.specs.Units.{unit_text, first_text, unit_half}
use Rattle.html_page.specs.declared.printer.HtmlPage.{HtmlPage}
use Rattle.page_out.specs.Printed.{Prints}
use Rattle.html_text.specs.Tokens.{Character, Token, printed}
use Rattle.html_page.proofs.PutLemmas.{close_done, close_step, open_done, open_step, other_glyph, other_half}
use Rattle.html_page.proofs.PutLemmas.{place_bare}
use Rattle.html_page.proofs.PutLemmas.{place_shown, tokens_then, unit_glyph, unit_glyph_half, way_put}
use Rattle.html_page.proofs.printer.HtmlPage.end.Goals as goal
use Rattle.text_codes.specs.Halves.{half_text}

pub returns : goal.returns
returns g c =
    let old = c.args.self.now in
    let closed : Events = turns same old.path [] in
    let half = half_of old.half closed in
    let went : PutsEvents g.K.Sink c.args.out.now old c.go.new.out c.go.new.self closed [] =
    subst (λ (to : List Element). PutsEvents g.K.Sink c.args.out.now old c.go.new.out c.go.new.self (turns same
    old.path to) to)
    c.new.ensures c.go.ensures in
    let put : Prints g.K.Sink c.go.new.out c.go.new.self.page c.put_half.new.out c.put_half.new.self.page (printed
    (characters
    (half_text half))) = subst (λ (h : Option ℕ). Prints g.K.Sink c.go.new.out c.go.new.self.page c.put_half.new.out
    c.put_half.new.self.page (printed (characters (half_text h)))) went.half c.put_half.ensures.prints in
    tokens_then g.K.Sink c.args.out.now c.go.new.out c.push_back.new.out old.page c.go.new.self.page
    c.push_back.new.page
    (tokens_of (page_source_of old.source) old.half closed) (characters (half_text half) ++ back_tokens) went.prints
    (tokens_then g.K.Sink
    c.go.new.out
    c.put_half.new.out c.push_back.new.out c.go.new.self.page c.put_half.new.self.page c.push_back.new.page
    (characters (half_text
    half)) back_tokens put c.push_back.ensures)
