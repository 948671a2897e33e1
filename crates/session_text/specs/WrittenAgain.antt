-- A text that is written again before it is saved: pieces in added text, and old ones that have a modifier, or one that
-- gives marks a style or properties, get fresh added units, in the order of the text and with the properties that the
-- document has now. No piece is cut and none is joined.
use Rattle.std.specs.Prelude.{◌≡◌, ◌≢◌, ◌⊎◌, ◌↔◌, ℕ, ◌+◌, ◌<◌, ◌≤◌, List, [], ◌∷◌, length, map, take, All, Bool}
use Rattle.std.specs.Prelude.{◌++◌, drop, is_some, Option, Some, None, IsSome, IsTrue, if◌then◌else◌}
use Rattle.std.specs.FinMap.{empty}
use Rattle.doc_bits.specs.Together.{AreTogether}
use Rattle.prop_map.specs.declared.modifiers.Modifier.{Modifier}
use Rattle.prop_map.specs.Modifiers.{no_modifier}
use Rattle.piece_table.specs.Piece.{TextPiece, bare_piece, piece_end, flat_pieces, total_length}
use Rattle.piece_table.specs.Renewals.{renewed_pieces, AreNewPlaces}
use Rattle.doc_model.specs.declared.item.Item.{Item}
use Rattle.doc_model.specs.declared.document.Document.{Document}
use Rattle.plain_doc.specs.RulesOfItems.{HasShortProperties}
use Rattle.full_save.specs.Text.{extra_mark}
use Rattle.save_laws.specs.Places.{PagedStream}
use Rattle.save_laws.specs.Slots.{Slot, shown, loose, last}
use Rattle.save_laws.specs.Sessions.{StandInSession}
use Rattle.session_text.specs.AddedText.{plan_of}
use Rattle.session_text.specs.SessionText.{IsSessionText, HaveFitModifiers, HaveNoModifiers, HaveModifiersWithin}
use Rattle.session_text.specs.OldUnits.{IsOldBounded, OldUnitsAreBounded}
use Rattle.session_text.specs.declared.session_text.SessionText.{SessionText}
use Rattle.session_text.specs.declared.old_pieces.OldPieces.{OldPieces}
use Rattle.session_text.specs.declared.old_pieces.OldPieces.TheVariants.{Kept, Marking, Modified}

-- ---- what is written

-- the modifier gives marks a style or properties
abbrev pub SetsMarks : Modifier → Type 0
SetsMarks modifier = IsSome modifier.istd ⊎ (modifier.pap ≢ empty)

-- old pieces with this modifier are written again
abbrev pub IsAmong : OldPieces → Modifier → Type 0
IsAmong Kept modifier = ⊥
IsAmong Marking modifier = SetsMarks modifier
IsAmong Modified modifier = modifier ≢ no_modifier

-- a piece is written again where it ends behind the base, in added text, or is among the old ones that are
abbrev pub IsRewritten : ℕ → OldPieces → TextPiece → Type 0
IsRewritten base which piece = (base < piece_end (bare_piece piece)) ⊎ IsAmong which piece.modifier

-- it has a new place then, and no other piece has
abbrev pub IsChosen : ℕ → OldPieces → Option ℕ → TextPiece → Type 0
IsChosen base which place piece = IsSome place ↔ IsRewritten base which piece

-- the units of the pieces at new places
abbrev pub renewed_units : List (Option ℕ) → List TextPiece → ℕ
renewed_units [] pieces = 0
renewed_units (place ∷ places) [] = 0
renewed_units (None ∷ places) (piece ∷ pieces) = renewed_units places pieces
renewed_units (Some at ∷ places) (piece ∷ pieces) = piece.len + renewed_units places pieces

-- the pieces that are written again are at new places, and nothing else is added
pub record HasWritten (which : OldPieces) (old new : SessionText) : Type 0 where
  pub places : List (Option ℕ)
  pub chosen : AreTogether (IsChosen old.added.base which) places old.pieces.pieces
  pub pieces : new.pieces.pieces ≡ renewed_pieces places old.pieces.pieces
  pub units : length new.added.items ≡ renewed_units places old.pieces.pieces

-- what is beside pieces and added text is the same
pub record IsSameAttached (old new : SessionText) : Type 0 where
  pub ends : new.ends ≡ old.ends
  pub base : new.added.base ≡ old.added.base
  pub sections : new.sections.items ≡ old.sections.items

-- it is the text of the document, as before, and no modifier is one that was not there
pub record IsWrittenAgain (document : Document) (which : OldPieces) (old new : SessionText) : Type 0 where
  pub text : (stream : PagedStream) → IsSessionText stream document old → IsSessionText stream document new
  pub bounded : (stream : PagedStream) → OldUnitsAreBounded stream document old → OldUnitsAreBounded stream document new
  pub fit : HaveFitModifiers old.pieces.pieces → HaveFitModifiers new.pieces.pieces
  pub modified : HaveNoModifiers old.pieces.pieces → HaveNoModifiers new.pieces.pieces
  pub printed :
      (most : ℕ) → HaveModifiersWithin most old.pieces.pieces → HaveModifiersWithin most new.pieces.pieces
  pub count : length new.pieces.pieces ≡ length old.pieces.pieces
  pub pieces : HasWritten which old new
  pub few : length new.added.items ≤ total_length old.pieces.pieces
  pub beside : IsSameAttached old new

-- ---- how it is written

-- an item that is written for a slot: the item that it shows, or a mark
abbrev pub slot_item : Slot → Item
slot_item (shown item) = item
slot_item loose = extra_mark
slot_item last = extra_mark

-- the place of a piece that may be written again at a byte, the units that it has there, and what is written of it
abbrev pub place_if_again : Bool → ℕ → Option ℕ
place_if_again again at = if again then Some at else None

abbrev pub len_for : Bool → ℕ → ℕ
len_for again len = if again then len else 0

abbrev pub values_for : {A : Type 0} → Bool → List A → List A
values_for again values = if again then values else []

-- the values of the pieces at new places, of those of all CPs
abbrev pub renewed_values : {A : Type 0} → List (Option ℕ) → List TextPiece → List A → List A
renewed_values [] pieces values = []
renewed_values (place ∷ places) [] values = []
renewed_values (place ∷ places) (piece ∷ pieces) values =
    values_for (is_some place) (take piece.len values) ++ renewed_values places pieces (drop piece.len values)

-- the first pieces are written again where they are to be, and represent the slots that they represented
pub record AreWritten
    (which : OldPieces) (old : SessionText) (slots : List Slot) (pieces : List TextPiece) (items : List Item)
    (places : List (Option ℕ)) : Type 0 where
  pub chosen : AreTogether (IsChosen old.added.base which) places pieces
  pub room : AreNewPlaces places pieces
  pub units : length items ≡ renewed_units places pieces
  pub short : All HasShortProperties items
  pub bounded :
      (stream : PagedStream) →
      AreTogether (IsOldBounded stream old.added.base) (flat_pieces old.pieces.pieces) slots →
      AreTogether (IsOldBounded stream old.added.base) (flat_pieces (renewed_pieces places pieces))
      (take (total_length pieces) slots)
  pub stands :
      (stream : PagedStream) → length stream.wd ≤ old.added.base →
      StandInSession stream (plan_of old.added) (flat_pieces old.pieces.pieces) slots →
      StandInSession stream (plan_of (record { base = old.added.base; items = items }))
      (flat_pieces (renewed_pieces places pieces)) (take (total_length pieces) slots)

-- whatever text the pieces are of, its items at their new places are written so
abbrev pub AreChosen : OldPieces → SessionText → List TextPiece → List (Option ℕ) → Type 0
AreChosen which old pieces places =
    (slots : List Slot) → length slots ≡ total_length old.pieces.pieces → All HasShortProperties (map slot_item slots) →
    AreWritten which old slots pieces (renewed_values places pieces (map slot_item slots)) places
