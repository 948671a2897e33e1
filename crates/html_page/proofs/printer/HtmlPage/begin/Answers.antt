use Rattle.std.proofs.Common.{◌≡◌, ◌++◌, List, ℕ, Option, None, ap, subst, sym, ◌∙◌}
use Rattle.page_out.specs.Printed.{Prints}
use Rattle.html_text.specs.Tokens.{printed}
use Rattle.glyph_units.specs.Units.{units_text}
use Rattle.html_page.specs.Pages.{characters, front_tokens, style_tokens}
use Rattle.html_page.proofs.PutLemmas.{put_as, tokens_then}
use Rattle.html_page.proofs.printer.HtmlPage.begin.Goals as goal

pub returns-clause-prints : goal.returns-clause-prints
returns-clause-prints g c =
    let front = c.push_front in
    let text = c.put_units in
    let style = c.push_style in
    let title = characters (units_text None c.args.title.now) in
    let put : Prints g.K.Sink front.new.out front.new.page text.new.out text.new.self.page (printed title) =
    put_as g.K.Sink front.new.out text.new.out front.new.page text.new.self.page (printed (characters (units_text
    c.args.self.now.half c.args.title.now))) (printed title) (ap (λ (half : Option ℕ). printed (characters (units_text half
    c.args.title.now))) c.requires) text.ensures.prints in
    tokens_then g.K.Sink c.args.out.now front.new.out style.new.out c.args.self.now.page front.new.page style.new.page
    (front_tokens c.args.language) (title ++ style_tokens) front.ensures (tokens_then g.K.Sink front.new.out text.new.out
    style.new.out front.new.page text.new.self.page style.new.page title style_tokens put style.ensures)
