-- How long a Clx is, by its pieces and by what the Prc of a piece takes.
use Rattle.std.specs.Prelude.{◌≡◌, ◌≢◌, ℕ, ◌+◌, ◌*◌, ◌≤◌, min, Bool, false, if◌then◌else◌, List, length, All}
use Rattle.prop_map.specs.declared.modifiers.Modifier.{Modifier}
use Rattle.prop_map.specs.Modifiers.{no_modifier, printed_modifier}
use Rattle.piece_table.specs.Piece.{TextPiece, UnitPlace, flat_pieces, ArePieces}
use Rattle.piece_table.specs.Clx.{prc_bytes}
use Rattle.piece_table.specs.ClxRules.{FitsPages}
use Rattle.piece_table.specs.Printing.{IsPrintedClx}

-- the Prc of a modifier has so many bytes at most; none is written for the modifier that does nothing
abbrev pub HasShortPrc : ℕ → Modifier → Type 0
HasShortPrc most modifier = modifier ≢ no_modifier → length (prc_bytes (printed_modifier modifier)) ≤ most

abbrev pub HaveShortPrcs : ℕ → List TextPiece → Type 0
HaveShortPrcs most pieces = All (λ piece. HasShortPrc most piece.modifier) pieces

-- a Clx has one Prc for a piece at most, and for each piece a CP and a Pcd
abbrev pub ClxIsShort : Type 0
ClxIsShort =
    (pieces : List TextPiece) (bytes : List ℕ) (most : ℕ) → IsPrintedClx pieces bytes → HaveShortPrcs most pieces →
    length bytes ≤ (12 + most) * length pieces + 9

-- Profile: the bytes that are reckoned for the Prc of a piece, where no modifier is printed in more bytes than these;
-- none where no piece has a modifier
abbrev pub reckoned_prc : Bool → ℕ → ℕ
reckoned_prc modified printed = if modified then min 788 (46 + printed) else 0

-- what is known of the modifiers of units
pub record AreReckoned (places : List UnitPlace) (modified : Bool) (printed : ℕ) : Type 0 where
  pub fit : All (λ place. FitsPages place.modifier) places
  pub none : modified ≡ false → All (λ place. place.modifier ≡ no_modifier) places
  pub short : All (λ place. length (printed_modifier place.modifier) ≤ printed) places

-- the Prcs of their pieces take no more than is reckoned
abbrev pub ReckonedPrcsAreShort : Type 0
ReckonedPrcsAreShort =
    (pieces : List TextPiece) (modified : Bool) (printed : ℕ) → ArePieces pieces →
    AreReckoned (flat_pieces pieces) modified printed → HaveShortPrcs (reckoned_prc modified printed) pieces
