-- Events of a page put one behind the other, and places.
use Rattle.std.proofs.Common.{◌≡◌, ℕ, ◌+◌, ◌<◌, ◌≤◌, Bool, true, false, List, [], ◌∷◌, ◌++◌, map, Option, Some, None}
use Rattle.std.proofs.Common.{refl, sym, ap, subst, ◌∙◌, append_assoc, arith, length, take, drop, take_all}
use Rattle.std.proofs.lemmas.List.{append-nil, map-append, length-take-le}
use Rattle.doc_outer.specs.declared.sink.Sink.{Ghosts}
use Rattle.page_out.specs.Printed.{Prints}
use Rattle.markdown_text.specs.declared.line.LineState.{LineState}
use Rattle.markdown_text.specs.Tokens.{Token, Character, after_tokens, printed_from}
use Rattle.markdown_text.proofs.Public.{after_tokens-append}
use Rattle.view_paths.specs.Paths.{PathPlace, last_path}
use Rattle.view_paths.specs.Events.{Event, Turn, Leaf, Open, Close, closes, opens, turns, leaf, events_up_to}
use Rattle.view_paths.specs.Turns.{IsSharedFront, IsFront}
use Rattle.view_paths.proofs.Public.{events_up_to-append, last_path-append, transition-shared, closes-next, closes-none}
use Rattle.view_paths.proofs.Public.{take-closed, opens-next, opens-none}
use Rattle.view_places.specs.declared.element.Element.{Element}
use Rattle.view_places.specs.declared.glyph.Glyph.{Glyph}
use Rattle.view_places.specs.Same.{same}
use Rattle.glyph_units.specs.Glyphs.{unit_in}
use Rattle.doc_model.specs.declared.document.Document.{Document}
use Rattle.markdown_page.specs.declared.pen.Pen.{Pen}
use Rattle.markdown_page.specs.declared.context.Context.{Context}
use Rattle.markdown_page.specs.declared.printer.MarkdownPage.{MarkdownPage}
use Rattle.markdown_page.specs.Pages.{Events, State, behind_event, event_context, event_tokens, glyph_shown}
use Rattle.markdown_page.specs.Pages.{glyph_tokens, half_tokens, state_behind, tokens_behind, tokens_from, turn_tokens}
use Rattle.markdown_page.specs.Pages.{turned_context}
use Rattle.markdown_page.specs.Pages.{character_tokens, text_seam, text_tokens, without_half}
use Rattle.markdown_page.specs.declared.context.Seam.{Seam}
use Rattle.markdown_page.specs.declared.marks.TagName.TheVariants as tag
use Rattle.markdown_page.specs.declared.pieces.Piece.{Piece}
use Rattle.markdown_page.specs.declared.pieces.Piece.TheVariants.{Insert}
use Rattle.markdown_page.specs.declared.pieces.Pieces.{Pieces}
use Rattle.markdown_page.specs.Contexts.{is_parted}
use Rattle.markdown_page.specs.Pieces.{piece_if, piece_tokens, pieces_tokens}
use Rattle.markdown_page.specs.Printed.{PutsEvents, PutsPlaces, PutsTokens, state_in}
use Rattle.markdown_page.specs.Shape.{Places, all_shaped, inner_kind, shaped, shaped_glyph, shaped_path}
use Rattle.markdown_page.proofs.TokenLemmas.{tokens_as, tokens_none, tokens_then}
use Rattle.text_codes.specs.Halves.{replacement, half_text}

-- ---- events one after another

pub tokens_of-append : (state : State) (xs ys : Events) → tokens_from state (xs ++ ys) ≡ tokens_from state xs ++
    tokens_from
    (state_behind state xs) ys
unfolding tokens_from state_behind
tokens_of-append state [] ys = refl
tokens_of-append state (event ∷ xs) ys =
    ap (λ (more : List Token). event_tokens state event ++ more) (tokens_of-append (behind_event state event) xs ys)
    ∙ sym (append_assoc (event_tokens state event) (tokens_from (behind_event state event) xs)
    (tokens_from (state_behind (behind_event state event) xs) ys))

pub state_of-append : (state : State) (xs ys : Events) → state_behind state (xs ++ ys) ≡ state_behind (state_behind
    state xs) ys
unfolding state_behind
state_of-append state [] ys = refl
state_of-append state (event ∷ xs) ys = state_of-append (behind_event state event) xs ys

-- the line is behind the tokens
line-state_of : (state : State) (xs : Events) → (state_behind state xs).line ≡ after_tokens state.line (tokens_from
    state xs)
unfolding tokens_from state_behind
line-state_of state [] = refl
line-state_of state (event ∷ xs) =
    line-state_of (behind_event state event) xs
    ∙ sym (after_tokens-append state.line (event_tokens state event) (tokens_from (behind_event state event) xs))

tokens_of-one : (state : State) (event : Event Element Glyph) → event_tokens state event ≡ tokens_from state (event ∷
    [])
unfolding tokens_from
tokens_of-one state event = sym (append-nil (event_tokens state event))

state_of-one : (state : State) (event : Event Element Glyph) → behind_event state event ≡ state_behind state (event ∷
    [])
unfolding state_behind
state_of-one state event = refl

-- the tokens of events
pub as_tokens : {K : Type 0} (sink : Ghosts K) (a b : K) (page left : MarkdownPage) (events : Events)
    (to : List Element) → PutsEvents sink a page b left events to →
    PutsTokens sink a page.pen b left.pen (tokens_from (state_in page) events)
as_tokens sink a b page left events to puts = record {
  prints = puts.prints;
  line = ap (λ (s : State). s.line) puts.state ∙ line-state_of (state_in page) events;
}

pub none_put : {K : Type 0} (sink : Ghosts K) (at : K) (page left : MarkdownPage) → left.pen ≡ page.pen →
    left.context ≡ page.context → left.document.now ≡ page.document.now → PutsEvents sink at page at left [] left.path
unfolding tokens_from state_behind
none_put sink at page left pen context document = record {
  prints =
      subst (λ (p : Pen). Prints sink at page.pen.page at p.page (printed_from page.pen.line [])) (sym pen)
      (tokens_none sink at page.pen).prints;
  state = λ i. record { document = document i; line = (pen i).line; context = context i };
  path = refl;
}

pub events_then : {K : Type 0} (sink : Ghosts K) (a b c : K) (p q r : MarkdownPage) (xs ys : Events)
    (first second : List Element) → PutsEvents sink a p b q xs first → PutsEvents sink b q c r ys second →
    PutsEvents sink a p c r (xs ++ ys) second
events_then sink a b c p q r xs ys first second one other =
    let next : PutsTokens sink b q.pen c r.pen (tokens_from (state_behind (state_in p) xs) ys) =
    subst (λ (s : State). PutsTokens sink b q.pen c r.pen (tokens_from s ys)) one.state
    (as_tokens sink b c q r ys second other) in
    record {
      prints =
          subst (λ (tokens : List Token). Prints sink a p.pen.page c r.pen.page (printed_from p.pen.line tokens))
          (sym (tokens_of-append (state_in p) xs ys))
          (tokens_then sink a b c p.pen q.pen r.pen (tokens_from (state_in p) xs) (tokens_from (state_behind (state_in
          p) xs) ys)
          (as_tokens sink a b p q xs first one) next).prints;
      state =
          other.state ∙ ap (λ (s : State). state_behind s ys) one.state ∙ sym (state_of-append (state_in p) xs ys);
      path = other.path;
    }

pub one_event : {K : Type 0} (sink : Ghosts K) (a b : K) (page left : MarkdownPage) (event : Event Element Glyph)
    (path : List Element) → PutsTokens sink a page.pen b left.pen (event_tokens (state_in page) event) →
    left.context ≡ event_context page.context event → left.path ≡ path → left.document.now ≡ page.document.now →
    PutsEvents sink a page b left (event ∷ []) path
one_event sink a b page left event path puts context is document = record {
  prints =
      subst (λ (tokens : List Token). Prints sink a page.pen.page b left.pen.page (printed_from page.pen.line tokens))
      (tokens_of-one (state_in page) event) puts.prints;
  state =
      (λ i. record { document = document i; line = puts.line i; context = context i }) ∙ state_of-one (state_in page) event;
  path = is;
}

-- the same events and the same path by other words
pub puts_as : {K : Type 0} (sink : Ghosts K) (a b : K) (page left : MarkdownPage) (xs ys : Events)
    (one other : List Element) → xs ≡ ys → one ≡ other → PutsEvents sink a page b left xs one →
    PutsEvents sink a page b left ys other
puts_as sink a b page left xs ys one other is path puts =
    subst (λ (events : Events). PutsEvents sink a page b left events other) is
    (subst (λ (p : List Element). PutsEvents sink a page b left xs p) path puts)

-- ---- elements that are closed

pub close_done : {K : Type 0} (sink : Ghosts K) (at : K) (page left : MarkdownPage) (count : ℕ) →
    left.pen ≡ page.pen → left.context ≡ page.context → left.path ≡ page.path → left.document.now ≡ page.document.now →
    length page.path ≤ count →
    PutsEvents sink at page at left (map Turn (closes (take count page.path) (drop count page.path)))
    (take count page.path)
close_done sink at page left count pen context path document short =
    let no : Events = [] in
    puts_as sink at at page left no (map Turn (closes (take count page.path) (drop count page.path))) left.path
    (take count page.path) (ap (map Turn) (sym (closes-none page.path count short)))
    (path ∙ sym (take_all count page.path short)) (none_put sink at page left pen context document)

pub close_step : {K : Type 0} (sink : Ghosts K) (a b c : K) (page next left : MarkdownPage) (new : List Element)
    (e : Element) (count : ℕ) → page.path ≡ new ++ e ∷ [] → count ≤ length new →
    PutsTokens sink a page.pen b next.pen (turn_tokens (state_in page) (Close [] e)) → next.path ≡ new → next.document.now ≡ page.document.now →
    next.context ≡ turned_context (Close [] e) (without_half page.context) →
    PutsEvents sink b next c left (map Turn (closes (take count next.path) (drop count next.path)))
    (take count next.path) →
    PutsEvents sink a page c left (map Turn (closes (take count page.path) (drop count page.path)))
    (take count page.path)
close_step sink a b c page next left new e count is within puts path document context rest =
    let event : Event Element Glyph = Turn (Close new e) in
    let first : PutsEvents sink a page b next (event ∷ []) new = one_event sink a b page next event new puts context path document in
    let more : Events = map Turn (closes (take count new) (drop count new)) in
    let second : PutsEvents sink b next c left more (take count new) =
    subst (λ (p : List Element). PutsEvents sink b next c left (map Turn (closes (take count p) (drop count p)))
    (take count p)) path rest in
    let both : PutsEvents sink a page c left (event ∷ more) (take count new) =
    events_then sink a b c page next left (event ∷ []) more new (take count new) first second in
    puts_as sink a c page left (event ∷ more) (map Turn (closes (take count page.path) (drop count page.path)))
    (take count new) (take count page.path) (ap (map Turn) (sym (closes-next page.path new e count is within)))
    (sym (take-closed page.path new e count is within)) both

-- ---- elements that are opened

pub open_done : {K : Type 0} (sink : Ghosts K) (at : K) (page left : MarkdownPage) (to : List Element) →
    left.pen ≡ page.pen → left.context ≡ page.context → left.path ≡ page.path → left.document.now ≡ page.document.now →
    page.path ≡ to →
    PutsEvents sink at page at left (map Turn (opens page.path (drop (length page.path) to))) to
open_done sink at page left to pen context path document is =
    let no : Events = [] in
    puts_as sink at at page left no (map Turn (opens page.path (drop (length page.path) to))) left.path to
    (ap (map Turn) (sym (opens-none page.path to is))) (path ∙ is) (none_put sink at page left pen context document)

pub open_step : {K : Type 0} (sink : Ghosts K) (a b c : K) (page next left : MarkdownPage) (new to : List Element)
    (e : Element) → new ≡ page.path ++ e ∷ [] → IsFront new to →
    PutsTokens sink a page.pen b next.pen (turn_tokens (state_in page) (Open [] e)) → next.path ≡ new → next.document.now ≡ page.document.now →
    next.context ≡ turned_context (Open [] e) (without_half page.context) →
    PutsEvents sink b next c left (map Turn (opens next.path (drop (length next.path) to))) to →
    PutsEvents sink a page c left (map Turn (opens page.path (drop (length page.path) to))) to
open_step sink a b c page next left new to e is front puts path document context rest =
    let event : Event Element Glyph = Turn (Open page.path e) in
    let first : PutsEvents sink a page b next (event ∷ []) new = one_event sink a b page next event new puts context path document in
    let more : Events = map Turn (opens new (drop (length new) to)) in
    let second : PutsEvents sink b next c left more to =
    subst (λ (p : List Element). PutsEvents sink b next c left (map Turn (opens p (drop (length p) to))) to) path rest
    in
    puts_as sink a c page left (event ∷ more) (map Turn (opens page.path (drop (length page.path) to))) to to
    (ap (map Turn) (sym (opens-next page.path new to e is front))) refl
    (events_then sink a b c page next left (event ∷ []) more new to first second)

-- ---- from a path to another one

pub way_put : {K : Type 0} (sink : Ghosts K) (a b c : K) (page next left : MarkdownPage) (to : List Element)
    (count : ℕ) → IsSharedFront same page.path to count →
    PutsEvents sink a page b next (map Turn (closes (take count page.path) (drop count page.path)))
    (take count page.path) →
    PutsEvents sink b next c left (map Turn (opens next.path (drop (length next.path) to))) to →
    PutsEvents sink a page c left (turns same page.path to) to
way_put sink a b c page next left to count shared one other =
    let front = take count page.path in
    let closed : Events = map Turn (closes front (drop count page.path)) in
    let opened : Events = map Turn (opens front (drop count to)) in
    let long : length front ≡ count = length-take-le count page.path shared.within in
    let second : PutsEvents sink b next c left opened to =
    subst (λ (n : ℕ). PutsEvents sink b next c left (map Turn (opens front (drop n to))) to) long
    (subst (λ (p : List Element). PutsEvents sink b next c left (map Turn (opens p (drop (length p) to))) to) one.path
    other) in
    let is : closed ++ opened ≡ turns same page.path to =
    sym (map-append {B = Event Element Glyph} Turn (closes front (drop count page.path)) (opens front (drop count to)))
    ∙ ap (map {B = Event Element Glyph} Turn) (sym (transition-shared same page.path to count shared)) in
    puts_as sink a c page left (closed ++ opened) (turns same page.path to) to to is refl
    (events_then sink a b c page next left closed opened front to one second)

-- ---- a place

abbrev place_of : List Element → Option Glyph → Places
place_of path glyph = record { path = path; glyph = glyph } ∷ []

-- a place by what it has in Markdown
shaped_put : {K : Type 0} (sink : Ghosts K) (a b : K) (page left : MarkdownPage) (to : List Element)
    (glyph shows : Option Glyph) → shaped_glyph (inner_kind to) glyph ≡ shows →
    PutsEvents sink a page b left (turns same page.path (shaped_path glyph to) ++ (leaf (shaped_path glyph to) shows ++
    [])) (shaped_path glyph to) → PutsPlaces sink a page b left (place_of to glyph)
shaped_put sink a b page left to glyph shows is puts =
    let path = shaped_path glyph to in
    subst (λ (g : Option Glyph). PutsEvents sink a page b left (turns same page.path path ++ (leaf path g ++ [])) path)
    (sym is) puts

pub place_bare : {K : Type 0} (sink : Ghosts K) (a b : K) (page left : MarkdownPage) (to path : List Element)
    (glyph : Option Glyph) → path ≡ shaped_path glyph to → shaped_glyph (inner_kind to) glyph ≡ None →
    PutsEvents sink a page b left (turns same page.path path) path → PutsPlaces sink a page b left (place_of to glyph)
place_bare sink a b page left to path glyph is none puts =
    let shape = shaped_path glyph to in
    let here : PutsEvents sink a page b left (turns same page.path shape) shape =
    subst (λ (p : List Element). PutsEvents sink a page b left (turns same page.path p) p) is puts in
    shaped_put sink a b page left to glyph None none
    (puts_as sink a b page left (turns same page.path shape) (turns same page.path shape ++ []) shape shape
    (sym (append-nil (turns same page.path shape))) refl here)

pub place_shown : {K : Type 0} (sink : Ghosts K) (a b c : K) (page next left : MarkdownPage) (to path : List Element)
    (glyph : Option Glyph) (g : Glyph) → path ≡ shaped_path glyph to → shaped_glyph (inner_kind to) glyph ≡ Some g →
    PutsEvents sink a page b next (turns same page.path path) path →
    PutsTokens sink b next.pen c left.pen (glyph_tokens (state_in next) (unit_in g) g) → left.path ≡ next.path →
    left.document.now ≡ next.document.now →
    left.context ≡ glyph_shown next.context (unit_in g) → PutsPlaces sink a page c left (place_of to glyph)
place_shown sink a b c page next left to path glyph g is some puts tokens same_path document context =
    let shape = shaped_path glyph to in
    let here : PutsEvents sink a page b next (turns same page.path shape) shape =
    subst (λ (p : List Element). PutsEvents sink a page b next (turns same page.path p) p) is puts in
    let event : Event Element Glyph = Leaf shape g in
    let shown : PutsEvents sink b next c left (event ∷ []) shape =
    one_event sink b c next left event shape tokens context (same_path ∙ here.path) document in
    shaped_put sink a c page left to glyph (Some g) some
    (events_then sink a b c page next left (turns same page.path shape) (event ∷ []) shape shape here shown)

-- places one after another
pub places_none : {K : Type 0} (sink : Ghosts K) (at : K) (page : MarkdownPage) → PutsPlaces sink at page at page []
places_none sink at page = none_put sink at page page refl refl refl

pub places_then : {K : Type 0} (sink : Ghosts K) (a b c : K) (p q r : MarkdownPage) (xs ys : Places) →
    PutsPlaces sink a p b q xs → PutsPlaces sink b q c r ys → PutsPlaces sink a p c r (xs ++ ys)
places_then sink a b c p q r xs ys one other =
    let front = all_shaped xs in
    let back = all_shaped ys in
    let second : PutsEvents sink b q c r (events_up_to same (last_path p.path front) back) (last_path (last_path p.path
    front) back) =
    subst (λ (path : List Element). PutsEvents sink b q c r (events_up_to same path back) (last_path path back)) one.path
    other in
    let whole : front ++ back ≡ all_shaped (xs ++ ys) = sym (map-append {B = PathPlace Element Glyph} shaped xs ys) in
    puts_as sink a c p r (events_up_to same p.path front ++ events_up_to same (last_path p.path front) back)
    (events_up_to same p.path (all_shaped (xs ++ ys))) (last_path (last_path p.path front) back)
    (last_path p.path (all_shaped (xs ++ ys)))
    (sym (events_up_to-append same p.path front back) ∙ ap (events_up_to same p.path) whole)
    (sym (last_path-append p.path front back) ∙ ap (last_path p.path) whole)
    (events_then sink a b c p q r (events_up_to same p.path front) (events_up_to same (last_path p.path front) back)
    (last_path p.path front) (last_path (last_path p.path front) back) one second)

-- pieces that are behind a half that waits
pub behind_put : {K : Type 0} (sink : Ghosts K) (a b c : K) (page next : MarkdownPage) (left : Pen)
    (pieces : LineState → Context → Pieces) (chosen : Pieces) →
    PutsTokens sink a page.pen b next.pen (half_tokens page.context) → next.context ≡ without_half page.context →
    chosen ≡ pieces next.pen.line next.context → PutsTokens sink b next.pen c left (pieces_tokens chosen) →
    PutsTokens sink a page.pen c left (tokens_behind (state_in page) pieces)
behind_put sink a b c page next left pieces chosen half context is put =
    let line : next.pen.line ≡ after_tokens page.pen.line (half_tokens page.context) = half.line in
    let same : pieces_tokens chosen ≡ pieces_tokens (pieces (after_tokens page.pen.line (half_tokens page.context))
    (without_half page.context)) = ap pieces_tokens is ∙ (λ i. pieces_tokens (pieces (line i) (context i))) in
    tokens_then sink a b c page.pen next.pen left (half_tokens page.context) (pieces_tokens (pieces (after_tokens
    page.pen.line (half_tokens page.context)) (without_half page.context))) half
    (tokens_as sink b c next.pen left (pieces_tokens chosen) (pieces_tokens (pieces (after_tokens page.pen.line
    (half_tokens page.context)) (without_half page.context))) same put)

-- and what is there of a link
pub turn_put : {K : Type 0} (sink : Ghosts K) (a b c : K) (page : MarkdownPage) (p left : Pen) (front : List Token)
    (document : Document) (chosen : Document → List Token) → PutsTokens sink a page.pen b p front →
    document ≡ page.document.now → PutsTokens sink b p c left (chosen document) →
    PutsTokens sink a page.pen c left (front ++ chosen page.document.now)
turn_put sink a b c page p left front document chosen one same other =
    tokens_then sink a b c page.pen p left front (chosen page.document.now) one
    (subst (λ (d : Document). PutsTokens sink b p c left (chosen d)) same other)

-- ---- characters

-- a character behind what parts it from an emphasis
pub said_put : {K : Type 0} (sink : Ghosts K) (a b c : K) (p q r : Pen) (seam : Seam) (code : ℕ) (piece : Piece) →
    piece ≡ piece_if (is_parted seam code) (Insert tag.Comment) → PutsTokens sink a p b q (piece_tokens piece) →
    PutsTokens sink b q c r (Character code ∷ []) → PutsTokens sink a p c r (text_tokens seam (code ∷ []))
said_put sink a b c p q r seam code piece is one other =
    let front = piece_tokens (piece_if (is_parted seam code) (Insert tag.Comment)) in
    tokens_as sink a c p r (front ++ Character code ∷ []) (text_tokens seam (code ∷ []))
    (sym (append-nil (character_tokens seam code)))
    (tokens_then sink a b c p q r front (Character code ∷ [])
    (tokens_as sink a b p q (piece_tokens piece) front (ap piece_tokens is) one) other)

-- where no half waits, and where one does
pub no_half : (context : Context) → context.half ≡ None → context ≡ without_half context
no_half context is = λ i. record context {
  half = is i;
  seam = text_seam context.seam (half_text (sym is i));
}

pub one_half : (context : Context) (half : ℕ) → context.half ≡ Some half →
    record context { half = None; seam = text_seam context.seam (replacement ∷ []) } ≡ without_half context
one_half context half is = λ i. record context {
  half = None;
  seam = text_seam context.seam (half_text (sym is i));
}
