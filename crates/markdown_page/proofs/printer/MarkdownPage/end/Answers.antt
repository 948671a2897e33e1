use Rattle.std.proofs.Common.{◌≡◌, [], List, subst}
use Rattle.view_paths.specs.Events.{turns}
use Rattle.view_places.specs.declared.element.Element.{Element}
use Rattle.view_places.specs.Same.{same}
use Rattle.markdown_page.specs.Pages.{Events, State, half_tokens, state_behind, tokens_from}
use Rattle.markdown_page.specs.Printed.{PutsEvents, PutsTokens, state_in}
use Rattle.markdown_page.proofs.PutLemmas.{as_tokens}
use Rattle.markdown_page.proofs.TokenLemmas.{tokens_then}
use Rattle.markdown_page.proofs.printer.MarkdownPage.end.Goals as goal

pub returns : goal.returns
returns g c =
    let old = c.args.self.now in
    let closed : Events = turns same old.path [] in
    let last = state_behind (state_in old) closed in
    let went : PutsEvents g.K.Sink c.args.out.now old c.go.new.out c.go.new.self closed [] =
    subst (λ (to : List Element). PutsEvents g.K.Sink c.args.out.now old c.go.new.out c.go.new.self (turns same
    old.path to) to) c.new.ensures c.go.ensures in
    let put : PutsTokens g.K.Sink c.go.new.out c.go.new.self.pen c.put_half.new.out c.put_half.new.self.pen (half_tokens
    last.context) =
    subst (λ (s : State). PutsTokens g.K.Sink c.go.new.out c.go.new.self.pen c.put_half.new.out c.put_half.new.self.pen
    (half_tokens s.context)) went.state c.put_half.ensures.puts in
    tokens_then g.K.Sink c.args.out.now c.go.new.out c.put_half.new.out old.pen c.go.new.self.pen
    c.put_half.new.self.pen (tokens_from (state_in old) closed) (half_tokens last.context)
    (as_tokens g.K.Sink c.args.out.now c.go.new.out old c.go.new.self closed [] went) put
