use Rattle.std.proofs.Common.{◌≡◌, ◌++◌, ◌∷◌, [], List, ℕ, refl, sym, ap, subst, ◌∙◌, map, Option, None, Some}
use Rattle.view_paths.specs.Events.{turns}
use Rattle.view_places.specs.Same.{same}
use Rattle.html_page.specs.Pages.{back_tokens, characters, close_tokens, front_tokens, glyph_tokens, half_of}
use Rattle.html_page.specs.Pages.{open_tokens}
use Rattle.html_page.specs.Pages.{other_tokens, style_tokens, tokens_of}
use Rattle.glyph_units.specs.Units.{unit_text, first_text, unit_half}
use Rattle.html_page.specs.declared.printer.HtmlPage.{HtmlPage}
use Rattle.page_out.specs.Printed.{Prints}
use Rattle.html_text.specs.Tokens.{Character, Token, printed}
use Rattle.html_page.proofs.PutLemmas.{close_done, close_step, open_done, open_step, other_glyph, other_half}
use Rattle.html_page.proofs.PutLemmas.{place_bare}
use Rattle.html_page.proofs.PutLemmas.{place_shown, tokens_then, unit_glyph, unit_glyph_half, way_put}
use Rattle.html_page.proofs.printer.HtmlPage.put_close.Goals as goal
use Rattle.text_codes.specs.Halves.{half_text}

pub returns-clause-prints : goal.returns-clause-prints
returns-clause-prints g c =
    tokens_then g.K.Sink c.args.out.now c.put_half.new.out c.push_close.new.out c.args.self.now.page
    c.put_half.new.self.page
    c.push_close.new.page (characters (half_text c.args.self.now.half)) (close_tokens c.args.element)
    c.put_half.ensures.prints
    c.push_close.ensures
