-- The tokens of a page: what its events open, close and show.
use Rattle.std.specs.Prelude.{ℕ, Bool, false, List, [], ◌∷◌, ◌++◌, Option, None, Some, if◌then◌else◌}
use Rattle.markdown_text.specs.declared.line.LineState.{LineState}
use Rattle.markdown_text.specs.declared.line.LineState.TheVariants.{Start}
use Rattle.markdown_text.specs.Tokens.{Token, Character, after_tokens, printed}
use Rattle.view_paths.specs.Events.{Event, Turn, Leaf, Open, Close, events_up_to, turns}
use Rattle.view_paths.specs.Events.{Tag as PathTag}
use Rattle.view_paths.specs.Paths.{last_path}
use Rattle.view_places.specs.declared.element.Element.{Element}
use Rattle.view_places.specs.declared.glyph.Glyph.{Glyph}
use Rattle.view_places.specs.Same.{same}
use Rattle.glyph_units.specs.Glyphs.{unit_in}
use Rattle.glyph_units.specs.Units.{unit_half, unit_text}
use Rattle.markdown_page.specs.declared.context.Seam.{Seam}
use Rattle.markdown_page.specs.declared.context.Seam.TheVariants.{Other}
use Rattle.markdown_page.specs.declared.context.CellLine.TheVariants.{Outside}
use Rattle.markdown_page.specs.declared.context.Context.{Context}
use Rattle.markdown_page.specs.declared.marks.TagName.TheVariants as tag
use Rattle.markdown_page.specs.declared.pieces.Pieces.{Pieces}
use Rattle.markdown_page.specs.declared.pieces.Piece.TheVariants.{Insert}
use Rattle.doc_model.specs.declared.document.Document.{Document}
use Rattle.markdown_page.specs.Destinations.{link_tokens}
use Rattle.markdown_page.specs.Contexts.{character_seam, closed, cut, is_parted, opened}
use Rattle.markdown_page.specs.Pieces.{closing, piece_if, opening, other_pieces, piece_tokens, pieces_tokens}
use Rattle.markdown_page.specs.Shape.{Places, all_shaped}
use Rattle.text_codes.specs.Halves.{half_text}

abbrev pub Events : Type 0
Events = List (Event Element Glyph)

-- ---- characters

-- a character; where it goes on with a word behind an emphasis, a comment is between
abbrev pub character_tokens : Seam → ℕ → List Token
character_tokens seam code = piece_tokens (piece_if (is_parted seam code) (Insert tag.Comment)) ++ Character code ∷ []

abbrev pub text_tokens : Seam → List ℕ → List Token
text_tokens seam [] = []
text_tokens seam (code ∷ text) = character_tokens seam code ++ text_tokens (character_seam code) text

abbrev pub text_seam : Seam → List ℕ → Seam
text_seam seam [] = seam
text_seam seam (code ∷ text) = text_seam (character_seam code) text

-- ---- events

-- what is before a place of a page of a document
pub record State : Type 0 where
  pub document : Document
  pub line : LineState
  pub context : Context

abbrev pub fresh : Context
fresh = record {
  half = None;
  seam = Other;
  in_note = false;
  begun = false;
  levels = 0;
  cell = Outside;
  cells = 0;
  columns = 0;
}

abbrev pub start_state : Document → State
start_state document = record { document = document; line = Start; context = fresh }

-- behind tokens
abbrev pub behind_tokens : State → List Token → Context → State
behind_tokens state tokens context = record {
  document = state.document;
  line = after_tokens state.line tokens;
  context = context;
}

-- a half that no other one follows is written
abbrev pub half_tokens : Context → List Token
half_tokens context = text_tokens context.seam (half_text context.half)

abbrev pub without_half : Context → Context
without_half context = record context { half = None; seam = text_seam context.seam (half_text context.half) }

abbrev pub unit_tokens : Context → ℕ → List Token
unit_tokens context unit = text_tokens context.seam (unit_text context.half unit)

abbrev pub unit_shown : Context → ℕ → Context
unit_shown context unit = record context {
  half = unit_half context.half unit;
  seam = text_seam context.seam (unit_text context.half unit);
}

-- pieces behind a half that waits
abbrev pub tokens_behind : State → (LineState → Context → Pieces) → List Token
tokens_behind state pieces =
    half_tokens state.context
    ++ pieces_tokens (pieces (after_tokens state.line (half_tokens state.context)) (without_half state.context))

abbrev pub turn_pieces : PathTag Element → LineState → Context → Pieces
turn_pieces (Open path element) line context = opening context element
turn_pieces (Close path element) line context = closing line context element

-- an element is opened or closed
abbrev pub turn_tokens : State → PathTag Element → List Token
turn_tokens state tag = tokens_behind state (turn_pieces tag) ++ link_tokens state.document tag

abbrev pub turned_context : PathTag Element → Context → Context
turned_context (Open path element) context = opened context element
turned_context (Close path element) context = closed context element

abbrev pub glyph_tokens : State → Option ℕ → Glyph → List Token
glyph_tokens state (Some unit) glyph = unit_tokens state.context unit
glyph_tokens state None glyph = tokens_behind state (λ line context. other_pieces line glyph)

abbrev pub glyph_shown : Context → Option ℕ → Context
glyph_shown context (Some unit) = unit_shown context unit
glyph_shown context None = cut (without_half context)

abbrev pub event_tokens : State → Event Element Glyph → List Token
event_tokens state (Turn tag) = turn_tokens state tag
event_tokens state (Leaf path glyph) = glyph_tokens state (unit_in glyph) glyph

abbrev pub event_context : Context → Event Element Glyph → Context
event_context context (Turn tag) = turned_context tag (without_half context)
event_context context (Leaf path glyph) = glyph_shown context (unit_in glyph)

abbrev pub behind_event : State → Event Element Glyph → State
behind_event state event = behind_tokens state (event_tokens state event) (event_context state.context event)

-- events behind others: so the halves of a character are one where nothing is between them
unfoldable pub tokens_from : State → Events → List Token
tokens_from state [] = []
tokens_from state (event ∷ events) = event_tokens state event ++ tokens_from (behind_event state event) events

-- what is behind them
unfoldable pub state_behind : State → Events → State
state_behind state [] = state
state_behind state (event ∷ events) = state_behind (behind_event state event) events

-- ---- pages

-- what is left where a path is open: all is closed
abbrev pub closing_tokens : State → List Element → List Token
closing_tokens state path =
    tokens_from state (turns same path []) ++ half_tokens (state_behind state (turns same path [])).context

-- a page of a document, by the places of its text
abbrev pub page_tokens : Document → Places → List Token
page_tokens document places =
    let events : Events = events_up_to same [] (all_shaped places) in
    tokens_from (start_state document) events
    ++ closing_tokens (state_behind (start_state document) events) (last_path [] (all_shaped places))

-- the characters of a page
abbrev pub page_text : Document → Places → List ℕ
page_text document places = printed (page_tokens document places)
