use Rattle.std.proofs.Common.{Bool, ◌++◌, ◌∷◌, [], List, sym, subst}
use Rattle.std.specs.Prelude.{if◌then◌else◌}
use Rattle.text_codes.specs.Shown.{pair_code}
use Rattle.glyph_units.specs.Units.{first_text}
use Rattle.markdown_page.specs.declared.context.Context.{Context}
use Rattle.markdown_page.specs.Pages.{text_seam, text_tokens}
use Rattle.markdown_page.specs.Printed.{PutsTokens}
use Rattle.markdown_page.proofs.TokenLemmas.{text_tokens-append, tokens_as, tokens_then}
use Rattle.markdown_page.proofs.printer.MarkdownPage.put_second.Goals as goal
use Rattle.text_codes.specs.Halves.{replacement}

pub returns-in-None-clause-puts : goal.returns-in-None-clause-puts
returns-in-None-clause-puts g c =
    let old = c.args.self.now in
    let seam = old.context.seam in
    let one = c.put_character-in-None in
    let two = c.put_first in
    let rest = first_text c.args.unit in
    let half = replacement ∷ [] in
    let second : PutsTokens g.K.Sink one.new.out one.new.self.pen two.new.out two.new.self.pen (text_tokens (text_seam
    seam half) rest) =
    subst (λ (context : Context). PutsTokens g.K.Sink one.new.out one.new.self.pen two.new.out two.new.self.pen
    (text_tokens context.seam rest)) one.ensures.context two.ensures.puts in
    subst (λ (flag : Bool). PutsTokens g.K.Sink c.args.out.now old.pen two.new.out two.new.self.pen (text_tokens seam
    (if flag then pair_code c.args.first c.args.unit ∷ [] else replacement ∷ [] ++ rest))) (sym c.in-None.ensures)
    (tokens_as g.K.Sink c.args.out.now two.new.out old.pen two.new.self.pen (text_tokens seam half ++ text_tokens
    (text_seam seam half) rest) (text_tokens seam (half ++ rest)) (sym (text_tokens-append seam half rest))
    (tokens_then g.K.Sink c.args.out.now one.new.out two.new.out old.pen one.new.self.pen two.new.self.pen
    (text_tokens seam half) (text_tokens (text_seam seam half) rest) one.ensures.puts second))
