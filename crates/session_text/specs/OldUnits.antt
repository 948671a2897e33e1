-- The units of a session's text that are in the stream of the last save, and the runs of paragraphs at their places.
use Rattle.std.specs.Prelude.{◌≡◌, ℕ, ◌<◌, Bool, Some}
use Rattle.doc_bits.specs.Together.{AreTogether}
use Rattle.piece_table.specs.Piece.{UnitPlace, flat_pieces}
use Rattle.doc_model.specs.declared.document.Document.{Document}
use Rattle.save_laws.specs.Places.{PagedStream}
use Rattle.save_laws.specs.Slots.{Slot, document_slots}
use Rattle.save_laws.specs.Ends.{ends_of}
use Rattle.save_laws.specs.ByRuns.{IsBounded, slot_end}
use Rattle.session_text.specs.declared.session_text.SessionText.{SessionText}

-- a unit that is before added text is bounded there, as one that ends a paragraph or as one that ends none
abbrev pub IsOldBounded : PagedStream → ℕ → UnitPlace → Slot → Type 0
IsOldBounded stream base place slot =
    place.at < base → (end : Bool) → slot_end slot ≡ Some end → IsBounded stream place.at place.wide end

-- and so is each such unit of a text
abbrev pub OldUnitsAreBounded : PagedStream → Document → SessionText → Type 0
OldUnitsAreBounded stream document text =
    AreTogether (IsOldBounded stream text.added.base) (flat_pieces text.pieces.pieces)
    (document_slots document (ends_of text.ends))
