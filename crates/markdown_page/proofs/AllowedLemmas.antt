-- A link of a page leads to a URL of one of five schemes.
use Rattle.std.proofs.Common.{◌≡◌, ◌∙◌, ◌⊎◌, inl, inr, ℕ, Bool, true, false, true≢false, List, [], ◌∷◌, ◌++◌, Option, Some, None}
use Rattle.std.proofs.Common.{refl, sym, ap, subst}
use Rattle.std.specs.Prelude.{if◌then◌else◌}
use Rattle.std.specs.List.{All}
use Rattle.std.proofs.lemmas.List.Elements.{All-append, All-cons, All-head, All-nil, All-tail}
use Rattle.field_links.specs.Laws.{IsLocalUrl, IsSchemeUrl}
use Rattle.doc_model.specs.declared.document.Document.{Document}
use Rattle.view_paths.specs.Events.{Close, Event, Leaf, Open, Turn, events_up_to, turns}
use Rattle.view_paths.specs.Events.{Tag as PathTag}
use Rattle.view_paths.specs.Paths.{last_path}
use Rattle.view_places.specs.declared.element.Element.{Element}
use Rattle.view_places.specs.declared.element.Element.TheVariants.{Notes, Note, Table, TableHead, TableBody, Row, Cell}
use Rattle.view_places.specs.declared.element.Element.TheVariants.{HeadCell, List as AList, Item, Paragraph, Label}
use Rattle.view_places.specs.declared.element.Element.TheVariants.{NestedTable, NestedRow, NestedCell}
use Rattle.view_places.specs.declared.element.Element.TheVariants.{Reference, BackLink, Bold, Italic, Underline, Strike}
use Rattle.view_places.specs.declared.element.Element.TheVariants.{SmallCaps, Caps, Raised, Lowered, Link as ALink, Anchor}
use Rattle.view_places.specs.declared.glyph.Glyph.{Glyph}
use Rattle.view_places.specs.Same.{same}
use Rattle.glyph_units.specs.Glyphs.{unit_in}
use Rattle.glyph_units.specs.Units.{unit_text}
use Rattle.link_targets.specs.Links.{instruction_of, url_in}
use Rattle.link_targets.proofs.Public.{known_url}
use Rattle.markdown_text.specs.declared.line.LineState.{LineState}
use Rattle.markdown_text.specs.declared.line.LineState.TheVariants.{Start}
use Rattle.markdown_text.specs.Lines.{is_special}
use Rattle.markdown_text.specs.Tokens.{Character, Destination, Markup, Tag, Token, after_token, after_tokens}
use Rattle.markdown_text.specs.Reading.{all_as_read, as_read}
use Rattle.markdown_page.specs.declared.context.Context.{Context}
use Rattle.markdown_page.specs.declared.context.Seam.{Seam}
use Rattle.markdown_page.specs.declared.pieces.Pieces.{Pieces}
use Rattle.markdown_page.specs.Destinations.{address_at, address_in, link_end_tokens, link_front_tokens, is_local}
use Rattle.markdown_page.specs.Destinations.{link_tokens}
use Rattle.markdown_page.specs.Laws.{IsAllowed, LinksAreAllowed}
use Rattle.markdown_page.specs.Pages.{Events, State, behind_event, closing_tokens, event_tokens, glyph_tokens}
use Rattle.markdown_page.specs.Pages.{half_tokens, page_tokens, start_state, state_behind, text_tokens, tokens_from}
use Rattle.markdown_page.specs.Pages.{turn_pieces}
use Rattle.markdown_page.specs.Pages.{without_half}
use Rattle.markdown_page.specs.Pieces.{other_pieces, pieces_tokens}
use Rattle.markdown_page.specs.Shape.{Places, all_shaped}
use Rattle.markdown_page.proofs.RightLemmas.{AreSafe, is_safe, page_read, safe-pieces, safe-text}
use Rattle.std.specs.List.{list_all}
use Rattle.doc_bits.proofs.Public.{and_first, and_second}
use Rattle.text_codes.specs.Halves.{half_text}

abbrev AreAllowed : List Token → Type 0
AreAllowed tokens = All IsAllowed tokens

none_allowed : AreAllowed []
none_allowed = All-nil IsAllowed

allowed-append : (xs ys : List Token) → AreAllowed xs → AreAllowed ys → AreAllowed (xs ++ ys)
allowed-append xs ys one other = All-append IsAllowed xs ys one other

allowed-cons : (token : Token) (tokens : List Token) → IsAllowed token → AreAllowed tokens → AreAllowed (token ∷ tokens)
allowed-cons token tokens one other = All-cons IsAllowed token tokens one other

-- ---- tokens without a destination

allowed_safe : (token : Token) → is_safe token ≡ true → IsAllowed token
allowed_safe (Character code) h = tt
allowed_safe (Markup code) h = tt
allowed_safe (Tag inner) h = tt
allowed_safe (Destination url) h = absurd (cc (h))

all_safe : (tokens : List Token) → AreSafe tokens → AreAllowed tokens
all_safe [] h = none_allowed
all_safe (token ∷ tokens) h =
    allowed-cons token tokens (allowed_safe token (and_first (is_safe token) (list_all is_safe tokens) h))
    (all_safe tokens (and_second (is_safe token) (list_all is_safe tokens) h))

allowed-text : (seam : Seam) (text : List ℕ) → AreAllowed (text_tokens seam text)
allowed-text seam text = all_safe (text_tokens seam text) (safe-text seam text)

allowed-behind : (context : Context) (pieces : Pieces) → AreAllowed (half_tokens context ++ pieces_tokens pieces)
allowed-behind context pieces =
    allowed-append (half_tokens context) (pieces_tokens pieces) (allowed-text context.seam (half_text context.half))
    (all_safe (pieces_tokens pieces) (safe-pieces pieces))

-- ---- where links lead

local_is : (url : List ℕ) → IsLocalUrl url → is_local url ≡ true
local_is url local = ap is_local local.begins

scheme_alone : (url : List ℕ) → is_local url ≡ false → IsSchemeUrl url ⊎ IsLocalUrl url → IsSchemeUrl url
scheme_alone url other (inl scheme) = scheme
scheme_alone url other (inr local) = absurd (true≢false (sym (local_is url local) ∙ other))

scheme_in : (url : Option (List ℕ)) (address : List ℕ) → ((text : List ℕ) → url ≡ Some text → IsSchemeUrl text ⊎
    IsLocalUrl text) → address_in url ≡ Some address → IsSchemeUrl address
scheme_in None address each is = absurd (cc (is))
scheme_in (Some url) address each is =
    let none : Option (List ℕ) = None in
    elim (is_local url) as (λ (b : Bool). is_local url ≡ b → (if b then none else Some url) ≡ Some address → IsSchemeUrl
    address) [
      | true ↦ λ local same. absurd (cc (same))
      | false ↦ λ other same.
          let is : url ≡ address = cc (same) in
          subst IsSchemeUrl is (scheme_alone url other (each url refl))
    ] refl is

scheme_at : (document : Document) (element : Element) (url : List ℕ) → address_at document element ≡ Some url →
    IsSchemeUrl url
scheme_at document (ALink link) url is =
    let instruction = instruction_of document link in
    scheme_in (url_in instruction) url (known_url instruction) is
scheme_at document Notes url is = absurd (cc (is))
scheme_at document (Note number) url is = absurd (cc (is))
scheme_at document (Table first) url is = absurd (cc (is))
scheme_at document TableHead url is = absurd (cc (is))
scheme_at document TableBody url is = absurd (cc (is))
scheme_at document (Row first) url is = absurd (cc (is))
scheme_at document (Cell number) url is = absurd (cc (is))
scheme_at document (HeadCell number) url is = absurd (cc (is))
scheme_at document (NestedTable first) url is = absurd (cc (is))
scheme_at document (NestedRow first) url is = absurd (cc (is))
scheme_at document (NestedCell number) url is = absurd (cc (is))
scheme_at document (AList list) url is = absurd (cc (is))
scheme_at document (Item number) url is = absurd (cc (is))
scheme_at document (Paragraph paragraph) url is = absurd (cc (is))
scheme_at document Label url is = absurd (cc (is))
scheme_at document (Reference number) url is = absurd (cc (is))
scheme_at document (BackLink number) url is = absurd (cc (is))
scheme_at document (Anchor number) url is = absurd (cc (is))
scheme_at document Bold url is = absurd (cc (is))
scheme_at document Italic url is = absurd (cc (is))
scheme_at document Underline url is = absurd (cc (is))
scheme_at document Strike url is = absurd (cc (is))
scheme_at document SmallCaps url is = absurd (cc (is))
scheme_at document Caps url is = absurd (cc (is))
scheme_at document Raised url is = absurd (cc (is))
scheme_at document Lowered url is = absurd (cc (is))

allowed-front : (address : Option (List ℕ)) → AreAllowed (link_front_tokens address)
allowed-front None = none_allowed
allowed-front (Some url) = allowed-cons (Markup 91) [] tt none_allowed

allowed-end : (address : Option (List ℕ)) → ((url : List ℕ) → address ≡ Some url → IsSchemeUrl url) →
    AreAllowed (link_end_tokens address)
allowed-end None each = none_allowed
allowed-end (Some url) each =
    allowed-cons (Markup 93) (Destination url ∷ []) tt (allowed-cons (Destination url) [] (each url refl) none_allowed)

allowed-link : (document : Document) (tag : PathTag Element) → AreAllowed (link_tokens document tag)
allowed-link document (Open path element) = allowed-front (address_at document element)
allowed-link document (Close path element) =
    allowed-end (address_at document element) (scheme_at document element)

-- ---- events

allowed-glyph : (state : State) (unit : Option ℕ) (glyph : Glyph) → AreAllowed (glyph_tokens state unit glyph)
allowed-glyph state (Some unit) glyph = allowed-text state.context.seam (unit_text state.context.half unit)
allowed-glyph state None glyph =
    allowed-behind state.context (other_pieces (after_tokens state.line (half_tokens state.context)) glyph)

allowed-event : (state : State) (event : Event Element Glyph) → AreAllowed (event_tokens state event)
allowed-event state (Turn tag) =
    let pieces = turn_pieces tag (after_tokens state.line (half_tokens state.context)) (without_half state.context) in
    allowed-append (half_tokens state.context ++ pieces_tokens pieces) (link_tokens state.document tag)
    (allowed-behind state.context pieces) (allowed-link state.document tag)
allowed-event state (Leaf path glyph) = allowed-glyph state (unit_in glyph) glyph

allowed-events : (state : State) (events : Events) → AreAllowed (tokens_from state events)
unfolding tokens_from
allowed-events state [] = none_allowed
allowed-events state (event ∷ events) =
    allowed-append (event_tokens state event) (tokens_from (behind_event state event) events) (allowed-event state
    event)
    (allowed-events (behind_event state event) events)

allowed-closing : (state : State) (path : List Element) → AreAllowed (closing_tokens state path)
allowed-closing state path =
    let events : Events = turns same path [] in
    let last = (state_behind state events).context in
    allowed-append (tokens_from state events) (half_tokens last) (allowed-events state events)
    (allowed-text last.seam (half_text last.half))

allowed-page : (document : Document) (places : Places) → AreAllowed (page_tokens document places)
allowed-page document places =
    let shaped = all_shaped places in
    let events : Events = events_up_to same [] shaped in
    let last = state_behind (start_state document) events in
    allowed-append (tokens_from (start_state document) events) (closing_tokens last (last_path [] shaped))
    (allowed-events (start_state document) events) (allowed-closing last (last_path [] shaped))

-- ---- what is read

allowed-markup : (code : ℕ) (special : Bool) → IsAllowed (if special then Markup code else Character code)
allowed-markup code true = tt
allowed-markup code false = tt

allowed-as_read : (line : LineState) (token : Token) → IsAllowed token → IsAllowed (as_read line token)
allowed-as_read line (Character code) h = tt
allowed-as_read line (Markup code) h = allowed-markup code (is_special line code)
allowed-as_read line (Tag inner) h = tt
allowed-as_read line (Destination url) h = h

allowed-read : (line : LineState) (tokens : List Token) → AreAllowed tokens → AreAllowed (all_as_read line tokens)
allowed-read line [] h = none_allowed
allowed-read line (token ∷ tokens) h =
    allowed-cons (as_read line token) (all_as_read (after_token line token) tokens)
    (allowed-as_read line token (All-head IsAllowed token tokens h))
    (allowed-read (after_token line token) tokens (All-tail IsAllowed token tokens h))

-- each destination that is read is allowed
pub links_allowed : LinksAreAllowed
links_allowed document places =
    subst (λ (tokens : List Token). All IsAllowed tokens) (sym (page_read document places))
    (allowed-read Start (page_tokens document places) (allowed-page document places))
