use Rattle.std.proofs.Common.{◌≡◌, ℕ, List, Option, sym, subst}
use Rattle.markdown_page.specs.Destinations.{link_end_tokens}
use Rattle.markdown_page.specs.Printed.{PutsTokens}
use Rattle.markdown_page.proofs.TokenLemmas.{tokens_none}
use Rattle.markdown_page.proofs.printer.MarkdownPage.put_link_end.Goals as goal

pub returns-in-None-clause-puts : goal.returns-in-None-clause-puts
returns-in-None-clause-puts g c =
    let old = c.args.self.now in
    subst (λ (address : Option (List ℕ)). PutsTokens g.K.Sink c.args.out.now old.pen c.args.out.now old.pen
    (link_end_tokens
    address)) (sym c.in-None.ensures) (tokens_none g.K.Sink c.args.out.now old.pen)

pub returns-in-Some-clause-puts : goal.returns-in-Some-clause-puts
returns-in-Some-clause-puts g c =
    let old = c.args.self.now in
    subst (λ (address : Option (List ℕ)). PutsTokens g.K.Sink c.args.out.now old.pen c.put_link_end.new.out
    c.put_link_end.new.self (link_end_tokens address)) (sym c.in-Some.ensures) c.put_link_end.ensures
