-- Pieces of text. The text is one list with an entry a CP, so no piece is searched for.
use Rattle.std.specs.Prelude.{◌≡◌, ℕ, ◌+◌, ◌*◌, ◌^◌, ◌<◌, ◌≤◌, List, [], ◌∷◌, length, map, flat_map, sum_by, All}
use Rattle.std.specs.Prelude.{Bool, true, Option, slice_get, if◌then◌else◌}
use Rattle.std.specs.List.{range_with_len}
use Rattle.prop_map.specs.declared.modifiers.Modifier.{Modifier}
use Rattle.prop_map.specs.Modifiers.{no_modifier, IsFormedModifier}
use Rattle.piece_table.specs.declared.pieces.Piece.{Piece}

-- a piece: the byte of WordDocument where it begins, whether its units have two bytes, its number of units, and its
-- modifier
pub record TextPiece : Type 0 where
  pub at : ℕ
  pub wide : Bool
  pub len : ℕ
  pub modifier : Modifier

-- the same without the modifier
abbrev pub bare_piece : TextPiece → Piece
bare_piece piece = record { at = piece.at; wide = piece.wide; len = piece.len }

-- pieces, the number of further ones for which there is memory, how many blocks there are with the ready ones, and how
-- many there is room for in the list of blocks
pub record PieceTable : Type 0 where
  pub pieces : List TextPiece
  pub spare : ℕ
  pub blocks : ℕ
  pub room : ℕ

-- no block is made, and no room for more
pub record IsNoLarger (old new : PieceTable) : Type 0 where
  pub blocks : new.blocks ≤ old.blocks
  pub room : new.room ≤ old.room

-- where a unit is: its first byte in WordDocument, and whether it has two; and the modifier of its piece
pub record UnitPlace : Type 0 where
  pub at : ℕ
  pub wide : Bool
  pub modifier : Modifier

-- the number of bytes of a unit
abbrev pub unit_bytes : Bool → ℕ
unit_bytes wide = if wide then 2 else 1

-- the places of a piece's units
abbrev pub places_of_piece : TextPiece → List UnitPlace
places_of_piece piece =
    map (λ j. record { at = piece.at + j * unit_bytes piece.wide; wide = piece.wide; modifier = piece.modifier })
    (range_with_len 0 piece.len)

-- the places of all units, one a CP
unfoldable pub flat_pieces : List TextPiece → List UnitPlace
flat_pieces pieces = flat_map places_of_piece pieces

-- the place of the unit of a CP, if there is one
abbrev pub place_of_cp : List TextPiece → ℕ → Option UnitPlace
place_of_cp pieces cp = slice_get (flat_pieces pieces) cp

-- the number of CPs
abbrev pub total_length : List TextPiece → ℕ
total_length pieces = sum_by (λ piece. piece.len) pieces

-- the byte after a piece's last
abbrev pub piece_end : Piece → ℕ
piece_end piece = piece.at + piece.len * unit_bytes piece.wide

-- a piece has units, and its bytes have 32-bit places
pub record IsPiece (piece : Piece) : Type 0 where
  pub some : 1 ≤ piece.len
  pub end : piece_end piece < 2 ^ 32

-- so it is, and its modifier has maps that a document may hold
pub record IsTextPiece (piece : TextPiece) : Type 0 where
  pub units : IsPiece (bare_piece piece)
  pub formed : IsFormedModifier piece.modifier

-- the pieces that a table may have
pub record ArePieces (pieces : List TextPiece) : Type 0 where
  pub each : All IsTextPiece pieces
  pub total : total_length pieces ≤ 500001

-- one piece of 16-bit units without a modifier
abbrev pub one_piece : ℕ → ℕ → List TextPiece
one_piece at len = record { at = at; wide = true; len = len; modifier = no_modifier } ∷ []

-- each piece covers as many entries as it has units
abbrev pub FlatLengthIsTotal : Type 0
FlatLengthIsTotal = (pieces : List TextPiece) → length (flat_pieces pieces) ≡ total_length pieces
