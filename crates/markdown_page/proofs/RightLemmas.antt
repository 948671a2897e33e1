-- What a page is printed of is right, so that it is read back.
use Rattle.std.proofs.Common.{◌≡◌, ℕ, zero, suc, ◌+◌, ◌/◌, ◌%◌, ◌==◌, Bool, true, false, not, List, [], ◌∷◌, ◌++◌}
use Rattle.std.proofs.Common.{map, Option, Some, None, refl, sym, ap, ◌∙◌, arith}
use Rattle.std.specs.Prelude.{if◌then◌else◌, codes}
use Rattle.std.specs.Fmt.{decimal, digits, digits_onto, digit_glyph}
use Rattle.std.specs.List.{list_all}
use Rattle.std.proofs.lemmas.Bool.Decides.{nat_tests}
use Rattle.std.proofs.lemmas.List.Folds.{list_all-append}
use Rattle.markdown_text.specs.declared.line.LineState.{LineState}
use Rattle.markdown_text.specs.declared.line.LineState.TheVariants.{Start, Digits, Within, Bracket, Colon}
use Rattle.markdown_text.specs.Lines.{is_among}
use Rattle.markdown_text.specs.Tokens.{Token, Character, Markup, Tag, Destination, after_token, after_tokens, are_valid}
use Rattle.markdown_text.specs.Tokens.{is_valid}
use Rattle.markdown_text.proofs.Public.{are_valid-append, read_back}
use Rattle.doc_model.specs.declared.document.Document.{Document}
use Rattle.view_paths.specs.Events.{Event, Turn, Leaf, Open, Close, events_up_to, turns}
use Rattle.view_paths.specs.Events.{Tag as PathTag}
use Rattle.view_paths.specs.Paths.{last_path}
use Rattle.view_places.specs.declared.element.Element.{Element}
use Rattle.view_places.specs.declared.glyph.Glyph.{Glyph}
use Rattle.view_places.specs.Same.{same}
use Rattle.glyph_units.specs.Glyphs.{unit_in}
use Rattle.glyph_units.specs.Units.{unit_text}
use Rattle.markdown_page.specs.declared.marks.Mark.{Mark}
use Rattle.markdown_page.specs.declared.marks.Mark.TheVariants as mark
use Rattle.markdown_page.specs.declared.marks.TagName.{TagName}
use Rattle.markdown_page.specs.declared.marks.TagName.TheVariants as tag
use Rattle.markdown_page.specs.declared.context.Seam.{Seam}
use Rattle.markdown_page.specs.declared.context.Context.{Context}
use Rattle.markdown_page.specs.declared.pieces.Piece.{Piece}
use Rattle.markdown_page.specs.declared.pieces.Piece.TheVariants.{Nothing, Write, Insert, Space, Number, Levels, Rule}
use Rattle.markdown_page.specs.declared.pieces.Piece.TheVariants.{Picture, Object}
use Rattle.markdown_page.specs.declared.pieces.Piece.TheVariants.{Tab as ATab}
use Rattle.markdown_page.specs.declared.pieces.Pieces.{Pieces}
use Rattle.markdown_page.specs.Contexts.{character_seam, is_parted}
use Rattle.markdown_page.specs.Destinations.{address_at, link_end_tokens, link_front_tokens, link_tokens}
use Rattle.markdown_page.specs.Marks.{mark_text, tag_text}
use Rattle.markdown_page.specs.Pages.{Events, State, behind_event, character_tokens, event_tokens, glyph_tokens}
use Rattle.markdown_page.specs.Pages.{closing_tokens, half_tokens, page_tokens, start_state, state_behind, text_tokens}
use Rattle.markdown_page.specs.Pages.{tokens_from}
use Rattle.markdown_page.specs.Pages.{turn_pieces, without_half}
use Rattle.markdown_page.specs.Pieces.{characters, piece_if, markup, marks_text, other_pieces, piece_tokens}
use Rattle.markdown_page.specs.Pieces.{pieces_tokens, delimiter_row_text}
use Rattle.markdown_page.specs.Shape.{Places, all_shaped}
use Rattle.markdown_page.specs.Laws.{PagesAreReadBack}
use Rattle.doc_bits.proofs.Public.{and_true, and_first, and_second}
use Rattle.text_codes.specs.Halves.{half_text}

-- ---- tokens that are right wherever they are

abbrev is_safe_code : ℕ → Bool
is_safe_code code = not (is_among (codes "\\&<(") code)

abbrev pub is_safe : Token → Bool
is_safe (Character code) = true
is_safe (Markup code) = is_safe_code code
is_safe (Tag inner) = list_all (λ code. not (code == 62)) inner
is_safe (Destination url) = false

abbrev pub AreSafe : List Token → Type 0
AreSafe tokens = list_all is_safe tokens ≡ true

safe-right : (line : LineState) (token : Token) → is_safe token ≡ true → is_valid line token ≡ true
safe-right line (Character code) h = refl
safe-right line (Markup code) h = h
safe-right line (Tag inner) h = h
safe-right line (Destination url) h = absurd (cc (h))

all_right : (line : LineState) (tokens : List Token) → AreSafe tokens → are_valid line tokens ≡ true
all_right line [] h = refl
all_right line (token ∷ tokens) h =
    and_true (is_valid line token) (are_valid (after_token line token) tokens)
    (safe-right line token (and_first (is_safe token) (list_all is_safe tokens) h))
    (all_right (after_token line token) tokens (and_second (is_safe token) (list_all is_safe tokens) h))

safe-append : (xs ys : List Token) → AreSafe xs → AreSafe ys → AreSafe (xs ++ ys)
safe-append xs ys one other =
    list_all-append is_safe xs ys ∙ and_true (list_all is_safe xs) (list_all is_safe ys) one other

-- ---- pieces

safe-characters : (text : List ℕ) → AreSafe (characters text)
safe-characters [] = refl
safe-characters (code ∷ text) = safe-characters text

safe-markup : (text : List ℕ) → list_all is_safe_code text ≡ true → AreSafe (markup text)
safe-markup [] h = refl
safe-markup (code ∷ text) h =
    and_true (is_safe_code code) (list_all is_safe (markup text))
    (and_first (is_safe_code code) (list_all is_safe_code text) h)
    (safe-markup text (and_second (is_safe_code code) (list_all is_safe_code text) h))

safe_mark : (m : Mark) → list_all is_safe_code (mark_text m) ≡ true
safe_mark mark.Strong = refl
safe_mark mark.Emphasis = refl
safe_mark mark.Strike = refl
safe_mark mark.NoteFront = refl
safe_mark mark.ReferenceEnd = refl
safe_mark mark.NoteEnd = refl
safe_mark mark.FirstCell = refl
safe_mark mark.NextCell = refl
safe_mark mark.RowEnd = refl
safe_mark mark.RuleFront = refl
safe_mark mark.RuleColumn = refl
safe_mark mark.LineEnd = refl
safe_mark mark.BlockEnd = refl
safe_mark mark.Indent = refl
safe_mark mark.Level = refl
safe_mark mark.Item = refl
safe_mark mark.Heading1 = refl
safe_mark mark.Heading2 = refl
safe_mark mark.Heading3 = refl
safe_mark mark.Heading4 = refl
safe_mark mark.Heading5 = refl
safe_mark mark.Heading6 = refl

safe_tag : (t : TagName) → list_all (λ code. not (code == 62)) (tag_text t) ≡ true
safe_tag tag.Underline = refl
safe_tag tag.UnderlineEnd = refl
safe_tag tag.Raised = refl
safe_tag tag.RaisedEnd = refl
safe_tag tag.Lowered = refl
safe_tag tag.LoweredEnd = refl
safe_tag tag.LineBreak = refl
safe_tag tag.Comment = refl

digit_is_safe : (d : ℕ) → is_safe_code (digit_glyph false d) ≡ true
digit_is_safe d = grind (arith, nat_tests)

safe-digits_onto : (k n : ℕ) (acc : List ℕ) → list_all is_safe_code acc ≡ true → list_all is_safe_code (digits_onto k 10
    false n acc) ≡ true
safe-digits_onto zero n acc h = h
safe-digits_onto (suc k) n acc h =
    let next : list_all is_safe_code (digit_glyph false (n % 10) ∷ acc) ≡ true =
    and_true (is_safe_code (digit_glyph false (n % 10))) (list_all is_safe_code acc) (digit_is_safe (n % 10)) h in
    elim (n / 10 == 0) as (λ (b : Bool). list_all is_safe_code (if b then digit_glyph false (n % 10) ∷ acc else
    digits_onto k 10 false (n / 10) (digit_glyph false (n % 10) ∷ acc)) ≡ true) [
      | true ↦ next
      | false ↦ safe-digits_onto k (n / 10) (digit_glyph false (n % 10) ∷ acc) next
    ]

safe_decimal : (n : ℕ) → list_all is_safe_code (decimal n) ≡ true
unfolding digits
safe_decimal n = safe-digits_onto 64 n [] refl

safe_marks : (m : Mark) (n : ℕ) → list_all is_safe_code (marks_text m n) ≡ true
safe_marks m zero = refl
safe_marks m (suc n) =
    list_all-append is_safe_code (marks_text m n) (mark_text m)
    ∙ and_true (list_all is_safe_code (marks_text m n)) (list_all is_safe_code (mark_text m)) (safe_marks m n)
    (safe_mark m)

safe_rule : (n : ℕ) → list_all is_safe_code (delimiter_row_text n) ≡ true
safe_rule n =
    list_all-append is_safe_code (marks_text mark.RuleColumn n) (mark_text mark.LineEnd)
    ∙ and_true (list_all is_safe_code (marks_text mark.RuleColumn n)) true (safe_marks mark.RuleColumn n) refl

safe-piece : (piece : Piece) → AreSafe (piece_tokens piece)
safe-piece Nothing = refl
safe-piece (Write mark) = safe-markup (mark_text mark) (safe_mark mark)
safe-piece (Insert tag) =
    and_true (list_all (λ code. not (code == 62)) (tag_text tag)) true (safe_tag tag) refl
safe-piece Space = refl
safe-piece ATab = refl
safe-piece (Number number) = safe-markup (decimal number) (safe_decimal number)
safe-piece (Levels levels) = safe-markup (marks_text mark.Level levels) (safe_marks mark.Level levels)
safe-piece (Rule columns) = safe-markup (delimiter_row_text columns) (safe_rule columns)
safe-piece Picture = refl
safe-piece Object = refl

pub safe-pieces : (pieces : Pieces) → AreSafe (pieces_tokens pieces)
safe-pieces pieces =
    safe-append (piece_tokens pieces.first) (piece_tokens pieces.second ++ piece_tokens pieces.third)
    (safe-piece pieces.first)
    (safe-append (piece_tokens pieces.second) (piece_tokens pieces.third) (safe-piece pieces.second)
    (safe-piece pieces.third))

-- ---- events

-- tokens that are right wherever they are
abbrev AreValid : List Token → Type 0
AreValid tokens = (line : LineState) → are_valid line tokens ≡ true

right-safe : (tokens : List Token) → AreSafe tokens → AreValid tokens
right-safe tokens safe = λ line. all_right line tokens safe

right-append : (xs ys : List Token) → AreValid xs → AreValid ys → AreValid (xs ++ ys)
right-append xs ys one other = λ line.
    are_valid-append line xs ys
    ∙ and_true (are_valid line xs) (are_valid (after_tokens line xs) ys) (one line) (other (after_tokens line xs))

pub safe-text : (seam : Seam) (text : List ℕ) → AreSafe (text_tokens seam text)
safe-text seam [] = refl
safe-text seam (code ∷ text) =
    safe-append (character_tokens seam code) (text_tokens (character_seam code) text)
    (safe-append (piece_tokens (piece_if (is_parted seam code) (Insert tag.Comment))) (Character code ∷ [])
    (safe-piece (piece_if (is_parted seam code) (Insert tag.Comment))) refl)
    (safe-text (character_seam code) text)

right-text : (seam : Seam) (text : List ℕ) → AreValid (text_tokens seam text)
right-text seam text = right-safe (text_tokens seam text) (safe-text seam text)

right-behind : (context : Context) (pieces : Pieces) → AreValid (half_tokens context ++ pieces_tokens pieces)
right-behind context pieces =
    right-append (half_tokens context) (pieces_tokens pieces) (right-text context.seam (half_text context.half))
    (right-safe (pieces_tokens pieces) (safe-pieces pieces))

right-front : (address : Option (List ℕ)) → AreValid (link_front_tokens address)
right-front None = λ line. refl
right-front (Some url) = λ line. refl

-- a destination is behind a bracket
right_end : (line : LineState) (url : List ℕ) → are_valid line (Markup 93 ∷ Destination url ∷ []) ≡ true
right_end Start url = refl
right_end Digits url = refl
right_end Within url = refl
right_end Bracket url = refl
right_end Colon url = refl

right-end : (address : Option (List ℕ)) → AreValid (link_end_tokens address)
right-end None = λ line. refl
right-end (Some url) = λ line. right_end line url

right-link : (document : Document) (tag : PathTag Element) → AreValid (link_tokens document tag)
right-link document (Open path element) = right-front (address_at document element)
right-link document (Close path element) = right-end (address_at document element)

right-glyph : (state : State) (unit : Option ℕ) (glyph : Glyph) → AreValid (glyph_tokens state unit glyph)
right-glyph state (Some unit) glyph = right-text state.context.seam (unit_text state.context.half unit)
right-glyph state None glyph =
    right-behind state.context (other_pieces (after_tokens state.line (half_tokens state.context)) glyph)

right-event : (state : State) (event : Event Element Glyph) → AreValid (event_tokens state event)
right-event state (Turn tag) =
    let pieces = turn_pieces tag (after_tokens state.line (half_tokens state.context)) (without_half state.context) in
    right-append (half_tokens state.context ++ pieces_tokens pieces) (link_tokens state.document tag)
    (right-behind state.context pieces) (right-link state.document tag)
right-event state (Leaf path glyph) = right-glyph state (unit_in glyph) glyph

right-events : (state : State) (events : Events) → AreValid (tokens_from state events)
unfolding tokens_from
right-events state [] = λ line. refl
right-events state (event ∷ events) =
    right-append (event_tokens state event) (tokens_from (behind_event state event) events) (right-event state event)
    (right-events (behind_event state event) events)

right-closing : (state : State) (path : List Element) → AreValid (closing_tokens state path)
right-closing state path =
    let events : Events = turns same path [] in
    let last = (state_behind state events).context in
    right-append (tokens_from state events) (half_tokens last) (right-events state events)
    (right-text last.seam (half_text last.half))

-- a page is read back
pub page_read : PagesAreReadBack
page_read document places =
    let shaped = all_shaped places in
    let events : Events = events_up_to same [] shaped in
    read_back (page_tokens document places)
    (right-append (tokens_from (start_state document) events) (closing_tokens (state_behind (start_state document)
    events) (last_path []
    shaped)) (right-events (start_state document) events) (right-closing (state_behind (start_state document) events)
    (last_path [] shaped))
    Start)
