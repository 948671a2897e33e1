-- A page in HTML that is put whole.
use Rattle.std.proofs.Common.{◌≡◌, ◌∙◌, ℕ, List, [], ◌++◌, sym, ap, subst, append_assoc, append-nil, Option, None}
use Rattle.doc_outer.specs.declared.sink.Sink.{Ghosts}
use Rattle.page_out.specs.declared.page.Page.{Page}
use Rattle.page_out.specs.Printed.{Prints}
use Rattle.html_text.specs.Tokens.{Token, printed}
use Rattle.view_paths.specs.Paths.{last_path}
use Rattle.view_paths.specs.Events.{events_from, events_up_to, turns}
use Rattle.view_paths.proofs.Public.{events_from-append}
use Rattle.view_places.specs.declared.element.Element.{Element}
use Rattle.view_places.specs.Same.{same}
use Rattle.html_page.specs.Sources.{PageSource, page_source_of}
use Rattle.html_page.specs.declared.printer.HtmlPage.{HtmlPage}
use Rattle.html_page.specs.Pages.{Events, Head, Places, back_tokens, body_tokens, characters, front_tokens, half_of}
use Rattle.html_page.specs.Pages.{page_text, page_tokens, style_tokens, tokens_of}
use Rattle.html_page.specs.Printed.{PutsPlaces}
use Rattle.html_page.proofs.Public.{half_of-append, tokens_of-append, tokens_then}
use Rattle.text_codes.specs.Halves.{half_text}

-- ---- the tokens of a page, piece by piece

-- the events of places are those up to the last one, and what is closed then
events_whole : (places : Places) → events_from same [] places ≡ events_up_to same [] places ++ turns same (last_path
    [] places)
    []
events_whole places =
    ap (events_from same []) (sym (append-nil places)) ∙ events_from-append same [] places []

body_whole : (source : PageSource) (places : Places) → body_tokens source places ≡ tokens_of source None
    (events_up_to same [] places) ++ (tokens_of source (half_of None
    (events_up_to same [] places)) (turns same (last_path [] places) []) ++ characters (half_text (half_of (half_of None
    (events_up_to same [] places)) (turns same (last_path [] places) []))))
body_whole source places =
    let up : Events = events_up_to same [] places in
    let last : Events = turns same (last_path [] places) [] in
    ap (λ (events : Events). tokens_of source None events ++ characters (half_text (half_of None events)))
    (events_whole places)
    ∙ (λ i. tokens_of-append source None up last i ++ characters (half_text (half_of-append None up last i)))
    ∙ append_assoc (tokens_of source None up) (tokens_of source (half_of None up) last) (characters (half_text
    (half_of (half_of None up) last)))

page_whole : (source : PageSource) (head : Head) (places : Places) → (front_tokens head.language ++ (characters
    head.title ++ style_tokens)) ++ (tokens_of source None
    (events_up_to same [] places) ++ (tokens_of source (half_of None (events_up_to same [] places)) (turns same
    (last_path [] places) [])
    ++ (characters (half_text (half_of (half_of None (events_up_to same [] places)) (turns same (last_path [] places)
    []))) ++
    back_tokens))) ≡ page_tokens source head places
page_whole source head places =
    let front = front_tokens head.language in
    let text = characters head.title in
    let up : Events = events_up_to same [] places in
    let last : Events = turns same (last_path [] places) [] in
    let first = tokens_of source None up in
    let closed = tokens_of source (half_of None up) last in
    let half = characters (half_text (half_of (half_of None up) last)) in
    let body : first ++ (closed ++ (half ++ back_tokens)) ≡ body_tokens source places ++ back_tokens =
    ap (λ (t : List Token). first ++ t) (sym (append_assoc closed half back_tokens)) ∙ sym (append_assoc first (closed
    ++ half)
    back_tokens) ∙ ap (λ (t : List Token). t ++ back_tokens) (sym (body_whole source places)) in
    ap (λ (t : List Token). (front ++ (text ++ style_tokens)) ++ t) body ∙ append_assoc front (text ++ style_tokens)
    (body_tokens source places ++ back_tokens) ∙ ap (λ (t : List Token). front ++ t) (append_assoc text style_tokens
    (body_tokens source places ++ back_tokens))

-- what was put before the text, the places, and what was put behind them are the page
pub page_put : {K : Type 0} (sink : Ghosts K) (a b c d : K) (first : Page) (p q : HtmlPage) (last : Page) (source :
    PageSource) (head : Head) (places : Places) → Prints sink a first b p.page (printed (front_tokens head.language ++
    (characters head.title ++ style_tokens))) → p.path ≡ [] → p.half ≡ None → page_source_of p.source ≡ source →
    PutsPlaces
    sink b p c q places → Prints sink c q.page d last (printed (tokens_of (page_source_of q.source) q.half (turns same
    q.path
    []) ++
    (characters (half_text (half_of q.half (turns same q.path []))) ++ back_tokens))) → Prints sink a first d last
    (page_text source head places)
page_put sink a b c d first p q last source head places front path half same_source puts back =
    let begin = front_tokens head.language ++ (characters head.title ++ style_tokens) in
    let up : Events = events_up_to same [] places in
    let middle : Prints sink b p.page c q.page (printed (tokens_of source None up)) =
    subst (λ (e : List Element). Prints sink b p.page c q.page (printed (tokens_of source None (events_up_to same e
    places)))) path (subst
    (λ (h : Option ℕ). Prints sink b p.page c q.page (printed (tokens_of source h (events_up_to same p.path
    places)))) half (subst (λ (x : PageSource). Prints sink b p.page c q.page (printed (tokens_of x p.half (events_up_to
    same p.path places)))) same_source puts.prints))
    in
    let path_is : q.path ≡ last_path [] places =
    puts.path ∙ ap (λ (e : List Element). last_path e places) path in
    let half_is : q.half ≡ half_of None up =
    puts.half ∙ (λ i. half_of (half i) (events_up_to same (path i) places)) in
    let end_tokens : Option ℕ → List Element → List Token = λ h e. tokens_of source h (turns same e []) ++ (characters
    (half_text (half_of
    h (turns same e []))) ++ back_tokens) in
    let there : Prints sink c q.page d last (printed (end_tokens q.half q.path)) =
    subst (λ (x : PageSource). Prints sink c q.page d last (printed (tokens_of x q.half (turns same q.path []) ++
    (characters (half_text (half_of q.half (turns same q.path []))) ++ back_tokens)))) (ap page_source_of puts.source ∙
    same_source) back in
    let end : Prints sink c q.page d last (printed (end_tokens (half_of None up) (last_path [] places))) =
    subst (λ (e : List Element). Prints sink c q.page d last (printed (end_tokens (half_of None up) e))) path_is
    (subst (λ (h :
    Option ℕ). Prints sink c q.page d last (printed (end_tokens h q.path))) half_is there) in
    subst (λ (tokens : List Token). Prints sink a first d last (printed tokens)) (page_whole source head places)
    (tokens_then sink a b d
    first p.page last begin (tokens_of source None up ++ end_tokens (half_of
    None up)
    (last_path [] places)) front (tokens_then sink b c d p.page q.page last (tokens_of source None up) (end_tokens
    (half_of None up)
    (last_path [] places)) middle end))
