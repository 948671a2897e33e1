-- [MS-DOC] Clx: any number of Prcs and then one Pcdt. Bytes after it are ignored.
use Rattle.std.specs.Prelude.{◌≡◌, ℕ, ◌+◌, ◌-◌, ◌*◌, ◌/◌, ◌%◌, ◌^◌, ◌<◌, ◌≤◌, ◌==◌, true, false, List, ◌∷◌, ◌++◌}
use Rattle.std.specs.Prelude.{length, take, map, flat_map, All, Some, slice_get, if◌then◌else◌}
use Rattle.std.specs.List.{range_with_len}
use Rattle.doc_bits.specs.Number.{u16_at, u32_at, number_bytes}
use Rattle.doc_bits.specs.Plc.{PlcPart, IsPlcOf, plc_cp}
use Rattle.piece_table.specs.declared.pcd.Prm.{Prm}
use Rattle.piece_table.specs.declared.pcd.Prm.TheVariants.{Nothing, Sprm, Prc}
use Rattle.piece_table.specs.declared.pcd.FcCompressed.{FcCompressed}
use Rattle.piece_table.specs.declared.pieces.Piece.{Piece}
use Rattle.piece_table.specs.Piece.{TextPiece, bare_piece}
use Rattle.piece_table.specs.PrmLists.{IsPrmModifier}

-- a clxt, the size of a body in that many bytes, and the body
abbrev pub sized_bytes : ℕ → ℕ → List ℕ → List ℕ
sized_bytes clxt width body = clxt ∷ (number_bytes width (length body) ++ body)

-- [MS-DOC] Prc: clxt 1, cbGrpprl, and a list of sprms of so many bytes
abbrev pub prc_bytes : List ℕ → List ℕ
prc_bytes = sized_bytes 1 2

abbrev pub IsGrpprl : List ℕ → Type 0
IsGrpprl grpprl = length grpprl ≤ 0x3FA2

-- [MS-DOC] Pcdt: clxt 2, lcb, and a Plc of so many bytes
abbrev pub pcdt_bytes : List ℕ → List ℕ
pcdt_bytes = sized_bytes 2 4

-- [MS-DOC] PlcPcd: entries of 8 bytes, one at least
pub record IsPlcPcd (plc : PlcPart) : Type 0 where
  pub size : plc.size ≡ 8
  pub table : IsPlcOf plc.bytes 8 plc.count
  pub some : 1 ≤ plc.count
  pub fits : length plc.bytes < 2 ^ 32

-- a Prc is at the front
pub record BeginsPrc (bytes : List ℕ) : Type 0 where
  pub grpprl : List ℕ
  pub more : List ℕ
  pub size : IsGrpprl grpprl
  pub spelt : bytes ≡ prc_bytes grpprl ++ more

-- a Pcdt is at the front
pub record BeginsPcdt (bytes : List ℕ) : Type 0 where
  pub plc : PlcPart
  pub more : List ℕ
  pub table : IsPlcPcd plc
  pub spelt : bytes ≡ pcdt_bytes plc.bytes ++ more

-- what a Clx has: the sprm lists of its Prcs, and the Plc of its Pcdt
pub record ClxParts : Type 0 where
  pub prcs : List (List ℕ)
  pub plc : PlcPart

-- the bytes begin with a Clx of these parts
pub record SpellsClx (clx : List ℕ) (parts : ClxParts) : Type 0 where
  pub more : List ℕ
  pub sizes : All IsGrpprl parts.prcs
  pub table : IsPlcPcd parts.plc
  pub spelt : clx ≡ flat_map prc_bytes parts.prcs ++ (pcdt_bytes parts.plc.bytes ++ more)

-- after some Prcs is neither a Prc nor a Pcdt
pub record IsWrongClxAt (clx : List ℕ) (offset : ℕ) : Type 0 where
  pub prcs : List (List ℕ)
  pub left : List ℕ
  pub sizes : All IsGrpprl prcs
  pub spelt : clx ≡ flat_map prc_bytes prcs ++ left
  pub here : offset ≡ length (flat_map prc_bytes prcs)
  pub no_prc : ¬ (BeginsPrc left)
  pub no_pcdt : ¬ (BeginsPcdt left)

-- where a Prc begins in the Clx
abbrev pub prc_place : List (List ℕ) → ℕ → ℕ
prc_place prcs number = length (flat_map prc_bytes (take number prcs))

-- where the Plc begins: after the Prcs, clxt and lcb
abbrev pub plc_place : ClxParts → ℕ
plc_place parts = length (flat_map prc_bytes parts.prcs) + 5

-- [MS-DOC] FcCompressed: fc in bits 0 to 29, fCompressed in bit 30. Bit 31 is ignored
abbrev pub fc_compressed : ℕ → FcCompressed
fc_compressed number =
    if number / 2 ^ 30 % 2 == 1 then record { at = number % 2 ^ 30 / 2; wide = false } else record {
      at = number % 2 ^
          30;
      wide = true;
    }

-- [MS-DOC] Prm: Prm1 where bit 0 is 1, the number of a Prc; else Prm0, an isprm and its operand. Profile: isprm 0 is
-- no modifier
abbrev pub prm_of : ℕ → Prm
prm_of number =
    if number % 2 == 1 then Prc (number / 2) else (if number / 2 % 128 == 0 then Nothing else Sprm (number / 2 % 128)
    (number / 256))

-- where the Pcd of a piece is in its Plc
abbrev pub pcd_place : PlcPart → ℕ → ℕ
pcd_place plc k = 4 * (plc.count + 1) + 8 * k

-- [MS-DOC] Pcd: flags, FcCompressed, Prm
abbrev pub pcd_fc : PlcPart → ℕ → FcCompressed
pcd_fc plc k = fc_compressed (u32_at plc.bytes (pcd_place plc k + 2))

abbrev pub prm_word : PlcPart → ℕ → ℕ
prm_word plc k = u16_at plc.bytes (pcd_place plc k + 6)

abbrev pub pcd_prm : PlcPart → ℕ → Prm
pcd_prm plc k = prm_of (prm_word plc k)

-- a piece of a Clx, without its modifier
abbrev pub clx_piece : PlcPart → ℕ → Piece
clx_piece plc k = record {
  at = (pcd_fc plc k).at;
  wide = (pcd_fc plc k).wide;
  len = plc_cp plc.bytes (k + 1) - plc_cp
      plc.bytes k;
}

-- the pieces of a Clx, without their modifiers
unfoldable pub clx_pieces : PlcPart → List Piece
clx_pieces plc = map (clx_piece plc) (range_with_len 0 plc.count)

-- each piece has the modifier of its Prm
abbrev pub HaveModifiers : ClxParts → List TextPiece → Type 0
HaveModifiers parts pieces =
    (k : ℕ) (piece : TextPiece) → slice_get pieces k ≡ Some piece → IsPrmModifier parts.prcs (pcd_prm parts.plc k)
    piece.modifier

-- the bytes begin with a Clx that has these pieces
pub record IsClx (clx : List ℕ) (pieces : List TextPiece) : Type 0 where
  pub parts : ClxParts
  pub spelt : SpellsClx clx parts
  pub pieces_are : map bare_piece pieces ≡ clx_pieces parts.plc
  pub modifiers : HaveModifiers parts pieces

-- a Clx has one list of pieces at most
abbrev pub ClxPiecesAreOne : Type 0
ClxPiecesAreOne = (clx : List ℕ) (a b : List TextPiece) → IsClx clx a → IsClx clx b → a ≡ b
