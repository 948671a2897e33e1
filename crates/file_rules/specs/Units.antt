-- The text of a document: the place and the unit of each CP, one by one. No piece is searched for.
use Rattle.std.specs.Prelude.{ℕ, ◌+◌, ◌*◌, List, map, slice_index, if◌then◌else◌}
use Rattle.doc_bits.specs.Number.{u16_at}
use Rattle.text_codes.specs.Compressed.{compressed_unit}
use Rattle.prop_map.specs.Modifiers.{no_modifier}
use Rattle.piece_table.specs.declared.pieces.Piece.{Piece}
use Rattle.piece_table.specs.Piece.{TextPiece, UnitPlace, flat_pieces}

-- the unit at a place of WordDocument: a 16-bit number, or a byte of compressed text
abbrev pub unit_at : List ℕ → UnitPlace → ℕ
unit_at wd place = if place.wide then u16_at wd place.at else compressed_unit (slice_index wd place.at)

-- the units of all CPs
abbrev pub text_units : List ℕ → List TextPiece → List ℕ
text_units wd pieces = map (unit_at wd) (flat_pieces pieces)

-- the first byte of the unit of each CP
abbrev pub unit_places_in : List TextPiece → List ℕ
unit_places_in pieces = map (λ place. place.at) (flat_pieces pieces)

-- both, an entry a CP
pub record UnitText : Type 0 where
  pub places : List ℕ
  pub units : List ℕ

abbrev pub text_of_pieces : List ℕ → List TextPiece → UnitText
text_of_pieces wd pieces = record { places = unit_places_in pieces; units = text_units wd pieces }

-- unit j of a run of units of two bytes
abbrev pub wide_unit : List ℕ → ℕ → ℕ → ℕ
wide_unit wd at j = u16_at wd (at + j * 2)

-- unit j of a run of units of one byte
abbrev pub narrow_unit : List ℕ → ℕ → ℕ → ℕ
narrow_unit wd at j = compressed_unit (slice_index wd (at + j * 1))

-- a piece of the code as one of the text: its modifier says nothing of places and units
abbrev pub unmodified_piece : Piece → TextPiece
unmodified_piece piece = record { at = piece.at; wide = piece.wide; len = piece.len; modifier = no_modifier }
