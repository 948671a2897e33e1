-- What the reader of a Clx finds at the front of some bytes.
use Rattle.std.specs.Prelude.{◌≡◌, ℕ, ◌+◌, ◌<◌, ◌≤◌, List, ◌++◌, length, drop, flat_map, All, slice_index}
use Rattle.std.specs.Prelude.{slice_index_or, slice_range, Bool, false, IsTrue, ◌↔◌}
use Rattle.doc_bits.specs.Number.{u16_at, u32_at}
use Rattle.doc_bits.specs.Plc.{PlcPart, plc_cp}
use Rattle.piece_table.specs.declared.parts.Parts.{Parts}
use Rattle.piece_table.specs.Clx.{ClxParts, SpellsClx, IsPlcPcd, IsGrpprl, prc_bytes, plc_place, clx_piece}
use Rattle.piece_table.specs.ClxRules.{IsNamedPrc}
use Rattle.piece_table.specs.Piece.{piece_end}

-- a Prc with a sprm list of that many bytes
pub record IsPrcFront (bytes : List ℕ) (size : ℕ) : Type 0 where
  pub clxt : slice_index bytes 0 ≡ 1
  pub count : u16_at bytes 1 ≡ size
  pub most : size ≤ 0x3FA2
  pub within : 3 + size ≤ length bytes

-- a Pcdt with that Plc
pub record IsPcdtFront (bytes : List ℕ) (plc : PlcPart) : Type 0 where
  pub clxt : slice_index bytes 0 ≡ 2
  pub lcb : u32_at bytes 1 ≡ length plc.bytes
  pub within : 5 + length plc.bytes ≤ length bytes
  pub bytes_are : plc.bytes ≡ slice_range bytes 5 (5 + length plc.bytes)
  pub table : IsPlcPcd plc

-- the Prcs at the front, and where what follows them begins
pub record ArePrcs (clx : List ℕ) (prcs : List (List ℕ)) (end : ℕ) : Type 0 where
  pub sizes : All IsGrpprl prcs
  pub spelt : clx ≡ flat_map prc_bytes prcs ++ drop end clx
  pub within : end ≤ length clx

-- and no further one follows
pub record AreAllPrcs (clx : List ℕ) (prcs : List (List ℕ)) (end : ℕ) : Type 0 where
  pub are : ArePrcs clx prcs end
  pub none : (size : ℕ) → ¬ (IsPrcFront (drop end clx) size)

-- the parts of a Clx, and where its Plc begins
pub record AreClxParts (clx : List ℕ) (parts : ClxParts) (place : ℕ) : Type 0 where
  pub spelt : SpellsClx clx parts
  pub place_is : place ≡ plc_place parts

-- the parts that were read, as those of a Clx
abbrev pub clx_parts : Parts → ClxParts
clx_parts parts = record { prcs = parts.prcs; plc = parts.plc }

-- the CPs begin with 0, ascend, and end with the text length
pub record AscendsTo (plc : PlcPart) (text_len : ℕ) : Type 0 where
  pub first : plc_cp plc.bytes 0 ≡ 0
  pub ascends : (k : ℕ) → k < plc.count → plc_cp plc.bytes k < plc_cp plc.bytes (k + 1)
  pub last : plc_cp plc.bytes plc.count ≡ text_len

-- the pieces end within a stream
abbrev pub EndsWithin : PlcPart → ℕ → Type 0
EndsWithin plc wd_len = (k : ℕ) → k < plc.count → piece_end (clx_piece plc k) ≤ wd_len

-- a Prc is marked exactly where a piece names it
pub record MarksNamed (parts : ClxParts) (marks : List Bool) : Type 0 where
  pub count : length marks ≡ length parts.prcs
  pub marked : (number : ℕ) → IsTrue (slice_index_or marks number false) ↔ IsNamedPrc parts.plc number
