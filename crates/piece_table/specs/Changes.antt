-- Changes of pieces, said by their entries, one a CP. No piece is named by its number, but for the answer of `locate`.
use Rattle.std.specs.Prelude.{◌≡◌, ℕ, ◌+◌, ◌<◌, ◌≤◌, List, [], length, take, drop, slice_get, slice_range, Option}
use Rattle.std.specs.Prelude.{Some, None}
use Rattle.std.specs.List.{AllZip}
use Rattle.prop_map.specs.declared.modifiers.Modifier.{Modifier}
use Rattle.prop_map.specs.Modifiers.{no_modifier, IsComposed}
use Rattle.piece_table.specs.declared.pieces.Piece.{Piece}
use Rattle.piece_table.specs.declared.pieces.Spot.{Spot}
use Rattle.piece_table.specs.Piece.{TextPiece, UnitPlace, places_of_piece, total_length}

-- the spot has the piece of the CP, and the place of the CP within it
pub record IsSpot (pieces : List TextPiece) (cp : ℕ) (spot : Spot) : Type 0 where
  pub piece : TextPiece
  pub there : slice_get pieces spot.piece ≡ Some piece
  pub here : total_length (take spot.piece pieces) + spot.within ≡ cp
  pub inside : spot.within < piece.len

-- a piece begins at the CP, or the text ends there
pub record HasPieceBegin (pieces : List TextPiece) (cp : ℕ) : Type 0 where
  pub before : ℕ
  pub within : before ≤ length pieces
  pub units : total_length (take before pieces) ≡ cp

-- a piece without a modifier
abbrev pub fresh_piece : Piece → TextPiece
fresh_piece piece = record { at = piece.at; wide = piece.wide; len = piece.len; modifier = no_modifier }

-- the places of a fresh piece's units, if there is one
abbrev pub fresh_places : Option Piece → List UnitPlace
fresh_places None = []
fresh_places (Some piece) = places_of_piece (fresh_piece piece)

-- the number of its units
abbrev pub fresh_units : Option Piece → ℕ
fresh_units None = 0
fresh_units (Some piece) = piece.len

-- the same unit, with its modifier composed with another
pub record IsModifiedPlace (by : Modifier) (old new : UnitPlace) : Type 0 where
  pub at : new.at ≡ old.at
  pub wide : new.wide ≡ old.wide
  pub modifier : IsComposed old.modifier by new.modifier

-- each unit of the range is modified, and the others stay
pub record AreModified (by : Modifier) (from to : ℕ) (old new : List UnitPlace) : Type 0 where
  pub before : take from new ≡ take from old
  pub modified : AllZip (IsModifiedPlace by) (slice_range old from to) (slice_range new from to)
  pub after : drop to new ≡ drop to old
