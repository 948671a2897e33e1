use Rattle.std.proofs.Common.{◌≡◌, ℕ, Option, None, Some, sym, ap, subst, ◌∙◌}
use Rattle.markdown_page.specs.declared.context.Context.{Context}
use Rattle.markdown_page.specs.Pages.{text_tokens}
use Rattle.markdown_page.specs.Printed.{PutsTokens}
use Rattle.markdown_page.proofs.PutLemmas.{no_half, one_half}
use Rattle.markdown_page.proofs.TokenLemmas.{tokens_none}
use Rattle.markdown_page.proofs.printer.MarkdownPage.put_half.Goals as goal
use Rattle.text_codes.specs.Halves.{half_text}

pub returns-in-None-clause-puts : goal.returns-in-None-clause-puts
returns-in-None-clause-puts g c =
    let old = c.args.self.now in
    subst (λ (half : Option ℕ). PutsTokens g.K.Sink c.args.out.now old.pen c.args.out.now old.pen (text_tokens
    old.context.seam (half_text half))) (sym c.in-None.is) (tokens_none g.K.Sink c.args.out.now old.pen)

pub returns-in-None-clause-context : goal.returns-in-None-clause-context
returns-in-None-clause-context g c = no_half c.args.self.now.context c.in-None.is

pub returns-in-Some-clause-puts : goal.returns-in-Some-clause-puts
returns-in-Some-clause-puts g c =
    let old = c.args.self.now in
    subst (λ (half : Option ℕ). PutsTokens g.K.Sink c.args.out.now old.pen c.put_character.new.out
    c.put_character.new.self.pen (text_tokens old.context.seam (half_text half))) (sym c.in-Some.is)
    c.put_character.ensures.puts

pub returns-in-Some-clause-context : goal.returns-in-Some-clause-context
returns-in-Some-clause-context g c =
    ap (λ (context : Context). record context { half = None }) c.put_character.ensures.context
    ∙ one_half c.args.self.now.context _ c.in-Some.is
