-- The font of a level: the last one that its properties of characters name.
use Rattle.std.specs.Prelude.{ℕ, zero, suc, ◌+◌, ◌==◌, Bool, ◌||◌, nat_lt, if◌then◌else◌, List, length, slice_index}
use Rattle.std.specs.Prelude.{Option, Some, None}
use Rattle.doc_bits.specs.Number.{u16_at}
use Rattle.sprm_table.specs.declared.operands.OperandSize.{OperandSize}
use Rattle.sprm_table.specs.declared.operands.OperandSize.TheVariants.{Fixed, CountedByByte, CountedByWord}
use Rattle.sprm_table.specs.Operands.{size_of}

-- [MS-DOC] Sprm: how many bytes the operand at a place has, its count included
abbrev pub operand_len : OperandSize → List ℕ → ℕ → ℕ
operand_len (Fixed size) list at = size
operand_len CountedByByte list at = 1 + slice_index list at
operand_len CountedByWord list at = 1 + u16_at list at

-- [MS-DOC] Prl: the place behind the one at a place
abbrev pub prl_end : List ℕ → ℕ → ℕ
prl_end list at = at + 2 + operand_len (size_of (u16_at list at)) list (at + 2)

-- no whole Prl is at the place
abbrev pub prls_end_at : List ℕ → ℕ → Bool
prls_end_at list at = nat_lt (length list) (at + 2) || nat_lt (length list) (prl_end list at)

-- [MS-DOC] sprmCRgFtc2: the font, by its number in SttbfFfn
abbrev pub font_by : List ℕ → ℕ → Option ℕ → Option ℕ
font_by list at font = if u16_at list at == 0x4A51 then Some (u16_at list (at + 2)) else font

-- behind so many Prls at most, from a place on, where those before name this font
unfoldable pub font_from : ℕ → List ℕ → ℕ → Option ℕ → Option ℕ
font_from zero list at font = font
font_from (suc count) list at font =
    if prls_end_at list at then font else font_from count list (prl_end list at) (font_by list at font)

abbrev pub font_in : List ℕ → Option ℕ
font_in list = font_from (length list) list 0 None
