-- The rules on the Clx, 27 to 32, in their order. A place is an offset in the table stream, where the Clx begins at
-- `at`.
-- The bounds are those of text in WordDocument: the end of the FIB and the end of the stream.
use Rattle.std.specs.Prelude.{◌≡◌, ◌≢◌, ◌⊎◌, ℕ, ◌+◌, ◌*◌, ◌<◌, ◌≤◌, List, length, IsSome, Some, slice_get}
use Rattle.doc_bits.specs.Plc.{PlcPart, plc_cp}
use Rattle.doc_bits.specs.Rules.{Rules, rule, ◌then◌, given, IsFirstOffset, Among, From, Breaks, IsLeastOfAll}
use Rattle.sprm_table.specs.Prms.{code_of_isprm}
use Rattle.sprm_table.specs.Sprm.{HasSprmFaultAt}
use Rattle.prop_map.specs.declared.modifiers.Modifier.{Modifier}
use Rattle.prop_map.specs.Formed.{prc_groups}
use Rattle.prop_map.specs.Printing.{printed_list}
use Rattle.piece_table.specs.declared.fault.ClxFault.{ClxFault}
use Rattle.piece_table.specs.declared.fault.ClxFault.TheVariants.{Rule, Memory}
use Rattle.piece_table.specs.declared.pcd.Prm.{Prm}
use Rattle.piece_table.specs.declared.pcd.Prm.TheVariants.{Nothing, Sprm, Prc}
use Rattle.piece_table.specs.declared.pieces.Piece.{Piece}
use Rattle.piece_table.specs.declared.pieces.TextBounds.{TextBounds}
use Rattle.piece_table.specs.Piece.{piece_end}
use Rattle.piece_table.specs.PrmLists.{IsPrmModifier}
use Rattle.piece_table.specs.Clx.{ClxParts, SpellsClx, prc_place, IsWrongClxAt, plc_place, pcd_place, pcd_prm}
use Rattle.piece_table.specs.Clx.{clx_piece}

-- there are too many pieces, or the first CP is not 0
abbrev pub IsWrongStart : PlcPart → ℕ → ℕ → Type 0
IsWrongStart plc base p = (p ≡ base) × ((16384 < plc.count) ⊎ (plc_cp plc.bytes 0 ≢ 0))

-- the CP after piece k is not above the one before it
abbrev pub IsNoCpAscent : PlcPart → ℕ → ℕ → ℕ → Type 0
IsNoCpAscent plc base k p = (p ≡ base + 4 * (k + 1)) × (plc_cp plc.bytes (k + 1) ≤ plc_cp plc.bytes k)

-- the last CP is not the text length
abbrev pub IsWrongEnd : PlcPart → ℕ → ℕ → ℕ → Type 0
IsWrongEnd plc base text_len p = (p ≡ base + 4 * plc.count) × (plc_cp plc.bytes plc.count ≢ text_len)

abbrev pub HasWrongCp : PlcPart → ℕ → ℕ → ℕ → Type 0
HasWrongCp plc base text_len p = IsWrongStart plc base p ⊎ (Among plc.count (IsNoCpAscent plc base) p ⊎ IsWrongEnd plc
    base text_len p)

-- bytes of a piece are in the FIB or beyond the stream
abbrev pub LeavesStream : TextBounds → Piece → Type 0
LeavesStream bounds piece = (piece.at < bounds.from) ⊎ (bounds.end < piece_end piece)

abbrev pub StaysInStream : TextBounds → Piece → Type 0
StaysInStream bounds piece = (bounds.from ≤ piece.at) × (piece_end piece ≤ bounds.end)

-- piece k leaves the stream
abbrev pub IsOutside : PlcPart → ℕ → TextBounds → ℕ → ℕ → Type 0
IsOutside plc base bounds k p =
    (p ≡ base + (pcd_place plc k + 2)) × LeavesStream bounds (clx_piece plc k)

-- a Prm that is read, among so many Prcs
abbrev pub IsReadPrm : ℕ → Prm → Type 0
IsReadPrm prcs Nothing = Unit {0}
IsReadPrm prcs (Sprm isprm operand) = IsSome (code_of_isprm isprm)
IsReadPrm prcs (Prc number) = number < prcs

-- those of all pieces are read
abbrev pub AreReadPrms : PlcPart → ℕ → Type 0
AreReadPrms plc prcs = (k : ℕ) → k < plc.count → IsReadPrm prcs (pcd_prm plc k)

-- the Prm of piece k is not read
abbrev pub IsUnread : PlcPart → ℕ → ℕ → ℕ → ℕ → Type 0
IsUnread plc base prcs k p = (p ≡ base + (pcd_place plc k + 6)) × ¬ (IsReadPrm prcs (pcd_prm plc k))

-- the rules on the pieces; `base` is where their Plc begins
abbrev pub piece_rules : PlcPart → ℕ → ℕ → TextBounds → ℕ → Rules ℕ
piece_rules plc base prcs bounds text_len =
    rule 28 (HasWrongCp plc base text_len)
    then rule 29 (Among plc.count (IsOutside plc base bounds))
    then rule 30 (Among plc.count (IsUnread plc base prcs))

-- a piece names the Prc
pub record IsNamedPrc (plc : PlcPart) (number : ℕ) : Type 0 where
  pub piece : ℕ
  pub below : piece < plc.count
  pub names : pcd_prm plc piece ≡ Prc number

-- the Prc has a sprm fault at the place, and a piece names it
pub record IsFaultyPrc (parts : ClxParts) (at number place : ℕ) : Type 0 where
  pub named : IsNamedPrc parts.plc number
  pub grpprl : List ℕ
  pub there : slice_get parts.prcs number ≡ Some grpprl
  pub fault : From (at + (prc_place parts.prcs number + 3)) (HasSprmFaultAt grpprl prc_groups) place

-- Profile: the properties of a modifier fit a page, as those of characters and of a mark
pub record FitsPages (modifier : Modifier) : Type 0 where
  pub chp : length (printed_list modifier.chp) ≤ 255
  pub pap : length (printed_list modifier.pap) ≤ 480

-- the modifier of the Prc does not fit, and a piece names it; the place is that of the Prc
pub record IsLongPrc (parts : ClxParts) (at number place : ℕ) : Type 0 where
  pub named : IsNamedPrc parts.plc number
  pub modifier : Modifier
  pub does : IsPrmModifier parts.prcs (Prc number) modifier
  pub long : ¬ (FitsPages modifier)
  pub here : place ≡ at + prc_place parts.prcs number

-- the rules on the Prcs
abbrev pub prc_rules : ClxParts → ℕ → Rules ℕ
prc_rules parts at =
    rule 31 (Among (length parts.prcs) (IsFaultyPrc parts at)) then rule 32 (Among (length parts.prcs)
    (IsLongPrc parts at))

abbrev pub parts_rules : ClxParts → ℕ → TextBounds → ℕ → Rules ℕ
parts_rules parts at bounds text_len =
    piece_rules parts.plc (at + plc_place parts) (length parts.prcs) bounds text_len then prc_rules parts at

-- the bounds of text behind a FIB of that size
abbrev pub text_bounds : ℕ → ℕ → TextBounds
text_bounds fib_size wd_len = record { from = fib_size; end = wd_len }

abbrev pub clx_rules : List ℕ → ℕ → TextBounds → ℕ → Rules ℕ
clx_rules clx at bounds text_len =
    rule 27 (From at (IsWrongClxAt clx)) then given (SpellsClx clx) (λ parts. parts_rules parts at bounds text_len)

-- a refusal names the first broken rule; want of memory is free
abbrev pub IsClxFault : Rules ℕ → ClxFault → Type 0
IsClxFault rules (Rule r p) = IsFirstOffset rules r p
IsClxFault rules Memory = Unit {0}

-- a refusal that is not for want of memory
abbrev pub NamesFirst : Rules ℕ → ClxFault → Type 0
NamesFirst rules (Rule r p) = IsFirstOffset rules r p
NamesFirst rules Memory = ⊥

-- the first broken rule is the least of all broken ones, at its least place
abbrev pub FirstClxFaultIsLeast : Type 0
FirstClxFaultIsLeast =
    (clx : List ℕ) (at : ℕ) (bounds : TextBounds) (text_len r p : ℕ) →
    IsFirstOffset (clx_rules clx at bounds text_len) r p → IsLeastOfAll (λ a b. a ≤ b) (Breaks (clx_rules clx at bounds
    text_len)) r p
