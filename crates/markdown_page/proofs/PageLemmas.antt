-- A page that is put whole.
use Rattle.std.proofs.Common.{◌≡◌, ◌∙◌, ℕ, List, [], ◌++◌, ap, sym, subst}
use Rattle.doc_outer.specs.declared.sink.Sink.{Ghosts}
use Rattle.page_out.specs.Printed.{Prints}
use Rattle.markdown_text.specs.declared.line.LineState.{LineState}
use Rattle.markdown_text.specs.declared.line.LineState.TheVariants.{Start}
use Rattle.markdown_text.specs.Tokens.{Token, printed_from}
use Rattle.doc_model.specs.declared.document.Document.{Document}
use Rattle.view_paths.specs.Paths.{last_path}
use Rattle.view_paths.specs.Events.{events_up_to}
use Rattle.view_places.specs.declared.element.Element.{Element}
use Rattle.view_places.specs.Same.{same}
use Rattle.markdown_page.specs.declared.printer.MarkdownPage.{MarkdownPage}
use Rattle.markdown_page.specs.Pages.{Events, State, closing_tokens, page_text, page_tokens, start_state, state_behind}
use Rattle.markdown_page.specs.Pages.{tokens_from}
use Rattle.markdown_page.specs.Printed.{PutsPlaces, PutsTokens, state_in}
use Rattle.markdown_page.specs.Shape.{Places, all_shaped}
use Rattle.markdown_page.proofs.PutLemmas.{as_tokens}
use Rattle.markdown_page.proofs.TokenLemmas.{tokens_as, tokens_then}

-- the places, and then what is closed, are the page
pub page_put : {K : Type 0} (sink : Ghosts K) (a b c : K) (p q r : MarkdownPage) (document : Document)
    (places : Places) → state_in p ≡ start_state document → p.path ≡ [] → PutsPlaces sink a p b q places →
    PutsTokens sink b q.pen c r.pen (closing_tokens (state_in q) q.path) →
    Prints sink a p.pen.page c r.pen.page (page_text document places)
page_put sink a b c p q r document places fresh path puts ends =
    let shaped = all_shaped places in
    let up : List Element → Events = λ e. events_up_to same e shaped in
    let now : state_in q ≡ state_behind (start_state document) (up []) = puts.state ∙ (λ i. state_behind (fresh i) (up
    (path i))) in
    let there : q.path ≡ last_path [] shaped = puts.path ∙ ap (λ (e : List Element). last_path e shaped) path in
    let whole : PutsTokens sink a p.pen c r.pen (tokens_from (state_in p) (up p.path) ++ closing_tokens (state_in q)
    q.path) =
    tokens_then sink a b c p.pen q.pen r.pen (tokens_from (state_in p) (up p.path)) (closing_tokens (state_in q) q.path)
    (as_tokens sink a b p q (up p.path) (last_path p.path shaped) puts) ends in
    let all : PutsTokens sink a p.pen c r.pen (page_tokens document places) =
    tokens_as sink a c p.pen r.pen (tokens_from (state_in p) (up p.path) ++ closing_tokens (state_in q) q.path)
    (page_tokens document places) (λ i. tokens_from (fresh i) (up (path i)) ++ closing_tokens (now i) (there i)) whole
    in
    subst (λ (line : LineState). Prints sink a p.pen.page c r.pen.page (printed_from line (page_tokens document places)))
    (ap (λ (s : State). s.line) fresh) all.prints
