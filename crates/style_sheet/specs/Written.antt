-- [MS-DOC] STSH: the bytes that a sheet is written as. Profile: cbStshi 18, base 10, the number of the slot in the
-- first
-- upx of a style of paragraphs, bchUpe as cbStd.
use Rattle.std.specs.Prelude.{◌≡◌, ℕ, suc, ◌+◌, ◌*◌, ◌≤◌, List, [], ◌∷◌, ◌++◌, length, Option, Some, None}
use Rattle.std.specs.List.{flat_map}
use Rattle.doc_bits.specs.Number.{number_bytes, AreBytes}
use Rattle.doc_bits.specs.Rules.{Hold}
use Rattle.prop_map.specs.Printing.{printed_list}
use Rattle.style_sheet.specs.declared.styles.Style.{Style}
use Rattle.style_sheet.specs.declared.styles.Kind.{Kind}
use Rattle.style_sheet.specs.declared.styles.Kind.TheVariants.{Para, Char, Other}
use Rattle.style_sheet.specs.Sheet.{Sheet, style_at}
use Rattle.style_sheet.specs.Formed.{IsFormedSheet}
use Rattle.style_sheet.specs.Counted.{written_counted}
use Rattle.style_sheet.specs.Stsh.{HasStyleSheet, stsh_rules}

abbrev pub word : ℕ → List ℕ
word number = number_bytes 2 number

abbrev pub written_stk : Kind → ℕ
written_stk (Para pap chp) = 1
written_stk (Char chp) = 2
written_stk (Other stk upxes) = stk

-- 0xFFF where there is no base
abbrev pub written_base : Option ℕ → ℕ
written_base None = 0xFFF
written_base (Some base) = base

-- the upxes of a style in this slot
abbrev pub written_upxes : ℕ → Kind → List (List ℕ)
written_upxes istd (Para pap chp) = (word istd ++ printed_list pap) ∷ printed_list chp ∷ []
written_upxes istd (Char chp) = printed_list chp ∷ []
written_upxes istd (Other stk upxes) = upxes

-- the name with its count and a zero unit, and the upxes
abbrev pub written_rest : ℕ → Style → List ℕ
written_rest istd style = word (length style.name) ++ (flat_map word style.name ++ (word 0 ++ flat_map written_counted
    (written_upxes istd style.kind)))

-- the STD of a style in this slot
abbrev pub written_style : ℕ → Style → List ℕ
written_style istd style =
    word (style.sti + 4096 * style.flags)
    ++ (word (written_stk style.kind + 16 * written_base style.base)
    ++ (word (length (written_upxes istd style.kind) + 16 * style.next)
    ++ (word (10 + length (written_rest istd style))
    ++ (word style.grfstd ++ written_rest istd style))))

-- that of a slot; none where it is empty
abbrev pub written_slot : ℕ → Option Style → List ℕ
written_slot istd None = []
written_slot istd (Some style) = written_style istd style

-- those of the slots from a number on
abbrev pub written_slots : ℕ → List (Option Style) → List (List ℕ)
written_slots istd [] = []
written_slots istd (slot ∷ slots) = written_slot istd slot ∷ written_slots (suc istd) slots

-- the Stshi, and what is before the slots
abbrev pub written_front : Sheet → List ℕ
written_front sheet = word 18 ++ (word (length sheet.styles) ++ (word 10 ++ flat_map word sheet.head))

-- the STSH
abbrev pub written_sheet : Sheet → List ℕ
written_sheet sheet = written_front sheet ++ flat_map written_counted (written_slots 0 sheet.styles)

-- each STD is short enough to be counted
abbrev pub IsWritable : Sheet → Type 0
IsWritable sheet = (istd : ℕ) → length (written_slot istd (style_at sheet istd)) ≤ 32767

-- the bytes break no rule, wherever they are, and hold the sheet
pub record IsValidStsh (sheet : Sheet) (part : List ℕ) : Type 0 where
  pub rules : (at : ℕ) → Hold (stsh_rules part at)
  pub held : HasStyleSheet part sheet

-- what is written is read back
abbrev pub SheetIsReadBack : Type 0
SheetIsReadBack = (sheet : Sheet) → IsFormedSheet sheet → IsWritable sheet → IsValidStsh sheet (written_sheet sheet)

-- a part holds one sheet at most
abbrev pub SheetIsOne : Type 0
SheetIsOne = (part : List ℕ) (one other : Sheet) → HasStyleSheet part one → HasStyleSheet part other → one ≡ other

-- a part holds a sheet, which is well formed
pub record HasFormedSheet (part : List ℕ) : Type 0 where
  pub sheet : Sheet
  pub has : HasStyleSheet part sheet
  pub formed : IsFormedSheet sheet

-- a part of bytes that breaks no rule holds one
abbrev pub PartsHoldSheets : Type 0
PartsHoldSheets = (part : List ℕ) (at : ℕ) → AreBytes part → Hold (stsh_rules part at) → HasFormedSheet part
