-- The Clx as it is printed.
use Rattle.std.specs.Prelude.{◌≡◌, ◌≢◌, ◌⊎◌, ℕ, ◌+◌, ◌*◌, ◌^◌, ◌<◌, ◌≤◌, List, [], ◌++◌, length, take, map, flat_map}
use Rattle.std.specs.Prelude.{sum, All, Contains, Some, slice_get, slice_index_or, if◌then◌else◌}
use Rattle.std.specs.List.{range_with_len}
use Rattle.doc_bits.specs.Number.{number_bytes}
use Rattle.doc_bits.specs.Rules.{Hold}
use Rattle.sprm_table.specs.Sprm.{IsAcceptedList}
use Rattle.prop_map.specs.declared.modifiers.Modifier.{Modifier}
use Rattle.prop_map.specs.Formed.{prc_groups}
use Rattle.prop_map.specs.Modifiers.{no_modifier, printed_modifier, IsSpeltModifier}
use Rattle.piece_table.specs.declared.pieces.Piece.{Piece}
use Rattle.piece_table.specs.declared.pieces.TextBounds.{TextBounds}
use Rattle.piece_table.specs.Piece.{TextPiece, bare_piece, flat_pieces, total_length, ArePieces}
use Rattle.piece_table.specs.Clx.{prc_bytes, pcdt_bytes, IsClx}
use Rattle.piece_table.specs.ClxRules.{FitsPages, StaysInStream, clx_rules}

-- pieces that a Clx can hold
pub record IsPrintable (pieces : List TextPiece) : Type 0 where
  pub few : length pieces ≤ 16384
  pub places : All (λ piece. piece.at < 2 ^ 29) pieces
  pub fit : All (λ piece. FitsPages piece.modifier) pieces

-- [MS-DOC] FcCompressed of a piece
abbrev pub fc_number : Piece → ℕ
fc_number piece = if piece.wide then piece.at else 2 * piece.at + 2 ^ 30

-- [MS-DOC] Pcd: flags 0, FcCompressed, Prm
abbrev pub pcd_bytes : Piece → ℕ → List ℕ
pcd_bytes piece prm = number_bytes 2 0 ++ (number_bytes 4 (fc_number piece) ++ number_bytes 2 prm)

-- CP k is the number of units of the first k pieces
abbrev pub cps_of : List ℕ → List ℕ
cps_of lens = map (λ k. sum (take k lens)) (range_with_len 0 (length lens + 1))

-- [MS-DOC] PlcPcd: the CPs and the Pcds
abbrev pub plc_bytes : List ℕ → List (List ℕ) → List ℕ
plc_bytes lens pcds = flat_map (number_bytes 4) (cps_of lens) ++ flat_map (λ pcd. pcd) pcds

-- the Prm is 0 for the modifier that does nothing, else the number of its Prc
abbrev pub NamesModifier : List Modifier → ℕ → Modifier → Type 0
NamesModifier prcs prm modifier =
    ((prm ≡ 0) × (modifier ≡ no_modifier)) ⊎ ((number : ℕ) × ((prm ≡ 2 * number + 1) × (slice_get prcs number ≡ Some
    modifier)))

-- a Prc is written for a modifier that does something and that a piece has, and it is read back as that modifier
pub record IsPrintedPrc (pieces : List TextPiece) (modifier : Modifier) : Type 0 where
  pub some : modifier ≢ no_modifier
  pub used : Contains (map (λ piece. piece.modifier) pieces) modifier
  pub accepted : IsAcceptedList (printed_modifier modifier) prc_groups
  pub back : IsSpeltModifier (printed_modifier modifier) modifier

abbrev pub printed_prcs : List Modifier → List ℕ
printed_prcs prcs = flat_map (λ modifier. prc_bytes (printed_modifier modifier)) prcs

-- the Pcd of a piece
pub record IsPrintedPcd (prcs : List Modifier) (piece : TextPiece) (pcd : List ℕ) : Type 0 where
  pub prm : ℕ
  pub names : NamesModifier prcs prm piece.modifier
  pub spelt : pcd ≡ pcd_bytes (bare_piece piece) prm

-- Profile: one Prc for each modifier that does something and that pieces have, and the Pcdt
pub record IsPrintedClx (pieces : List TextPiece) (bytes : List ℕ) : Type 0 where
  pub prcs : List Modifier
  pub pcds : List (List ℕ)
  pub few : length prcs ≤ length pieces
  pub each : All (IsPrintedPrc pieces) prcs
  pub once : (i j : ℕ) (modifier : Modifier) → slice_get prcs i ≡ Some modifier → slice_get prcs j ≡ Some modifier →
      i ≡ j
  pub count : length pcds ≡ length pieces
  pub pcd : (k : ℕ) (piece : TextPiece) → slice_get pieces k ≡ Some piece → IsPrintedPcd prcs piece (slice_index_or
      pcds k [])
  pub spelt : bytes ≡ printed_prcs prcs ++ pcdt_bytes (plc_bytes (map (λ piece. piece.len) pieces) pcds)

-- what is printed breaks no rule and is read again as the pieces, where there is one and all are in the stream
pub record IsClxReadBack (pieces : List TextPiece) (bytes : List ℕ) (at : ℕ) (bounds : TextBounds) : Type 0 where
  pub holds : Hold (clx_rules bytes at bounds (total_length pieces))
  pub is : IsClx bytes pieces
  pub flat : (read : List TextPiece) → IsClx bytes read → flat_pieces read ≡ flat_pieces pieces

abbrev pub ClxIsReadBack : Type 0
ClxIsReadBack =
    (pieces : List TextPiece) (bytes : List ℕ) (at : ℕ) (bounds : TextBounds) →
    ArePieces pieces → IsPrintable pieces → 1 ≤ length pieces →
    All (λ piece. StaysInStream bounds (bare_piece piece)) pieces →
    IsPrintedClx pieces bytes → IsClxReadBack pieces bytes at bounds
