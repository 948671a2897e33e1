-- Pieces that are at new places, in text of two bytes a unit and without a modifier, and others that stay.
use Rattle.std.specs.Prelude.{ℕ, ◌+◌, ◌*◌, ◌^◌, ◌<◌, List, [], ◌∷◌, true, Option, Some, None}
use Rattle.std.specs.Option.{ForSome}
use Rattle.prop_map.specs.Modifiers.{no_modifier}
use Rattle.doc_bits.specs.Together.{AreTogether}
use Rattle.piece_table.specs.declared.pieces.Entry.{Entry}
use Rattle.piece_table.specs.Piece.{TextPiece}

-- the piece at a new place, if there is one
abbrev pub renewed_piece : Option ℕ → TextPiece → TextPiece
renewed_piece None piece = piece
renewed_piece (Some at) piece = record { at = at; wide = true; len = piece.len; modifier = no_modifier }

-- each piece with the place that is beside it
abbrev pub renewed_pieces : List (Option ℕ) → List TextPiece → List TextPiece
renewed_pieces [] pieces = pieces
renewed_pieces (place ∷ places) [] = []
renewed_pieces (place ∷ places) (piece ∷ pieces) = renewed_piece place piece ∷ renewed_pieces places pieces

-- the units of the piece have 32-bit places from there on
abbrev pub HasRoomAt : Option ℕ → TextPiece → Type 0
HasRoomAt place piece = ForSome place (λ at. at + 2 * piece.len < 2 ^ 32)

-- and so have those of all pieces
abbrev pub AreNewPlaces : List (Option ℕ) → List TextPiece → Type 0
AreNewPlaces places pieces = AreTogether HasRoomAt places pieces

-- the entry at a new place, if there is one. Number 0 is the modifier that does nothing
abbrev pub moved_entry : Option ℕ → Entry → Entry
moved_entry None entry = entry
moved_entry (Some at) entry = record {
  piece = record { at = at; wide = true; len = entry.piece.len };
  modifier = 0;
}

abbrev pub moved_entries : List (Option ℕ) → List Entry → List Entry
moved_entries [] entries = entries
moved_entries (place ∷ places) [] = []
moved_entries (place ∷ places) (entry ∷ entries) = moved_entry place entry ∷ moved_entries places entries
