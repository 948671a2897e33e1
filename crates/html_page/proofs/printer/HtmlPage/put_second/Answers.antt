use Rattle.std.proofs.Common.{Bool, ◌++◌, ◌∷◌, [], List, sym, subst}
use Rattle.std.specs.Prelude.{if◌then◌else◌}
use Rattle.text_codes.specs.Shown.{pair_code}
use Rattle.html_text.specs.Tokens.{Character, printed}
use Rattle.page_out.specs.Printed.{Prints}
use Rattle.html_page.specs.Pages.{characters}
use Rattle.glyph_units.specs.Units.{first_text}
use Rattle.html_page.proofs.PutLemmas.{tokens_then}
use Rattle.html_page.proofs.printer.HtmlPage.put_second.Goals as goal
use Rattle.text_codes.specs.Halves.{replacement}

pub returns-in-None-clause-prints : goal.returns-in-None-clause-prints
returns-in-None-clause-prints g c =
    let old = c.args.self.now in
    let one = c.push_character-in-None in
    let two = c.put_first in
    subst (λ (flag : Bool). Prints g.K.Sink c.args.out.now old.page two.new.out two.new.self.page (printed (characters
    (if flag then
    pair_code c.args.first c.args.unit ∷ [] else replacement ∷ [] ++ first_text c.args.unit)))) (sym c.in-None.ensures)
    (tokens_then g.K.Sink c.args.out.now one.new.out two.new.out old.page one.new.page two.new.self.page (Character
    replacement ∷
    []) (characters (first_text c.args.unit)) one.ensures two.ensures.prints)
