-- [MS-DOC] STSH: cbStshi, the Stshif of nine words, and the slots. The rules on it, 49 to 51.
use Rattle.std.specs.Prelude.{◌≡◌, ◌⊎◌, ℕ, ◌+◌, ◌-◌, ◌^◌, ◌<◌, ◌≤◌, min, List, [], ◌∷◌, length, Option, Some, None}
use Rattle.doc_bits.specs.Number.{u16_at}
use Rattle.doc_bits.specs.Rules.{Rules, rule, ◌then◌, IsFirstOffset, Among, From}
use Rattle.sprm_table.specs.Sprm.{HasSprmFaultAt}
use Rattle.prop_map.specs.Formed.{character_groups, paragraph_groups}
use Rattle.style_sheet.specs.declared.styles.Style.{Style}
use Rattle.style_sheet.specs.declared.fault.StyleFault.{StyleFault}
use Rattle.style_sheet.specs.declared.fault.StyleFault.TheVariants.{Rule, Memory}
use Rattle.style_sheet.specs.Sheet.{Sheet, style_at}
use Rattle.style_sheet.specs.Counted.{counted_place, counted_bytes, IsCountedPart}
use Rattle.style_sheet.specs.StyleDefinition.{stk, upx_place, paragraph_list, IsStd, HasAcceptedLists, SpellsStyle}

abbrev pub cb_stshi : List ℕ → ℕ
cb_stshi part = u16_at part 0

-- the number of slots
abbrev pub cstd : List ℕ → ℕ
cstd part = u16_at part 2

-- cbSTDBaseInFile: where in each STD its name begins
abbrev pub std_base : List ℕ → ℕ
std_base part = u16_at part 4

-- the seven words after it
abbrev pub stshi_words : List ℕ → List ℕ
stshi_words part = u16_at part 6 ∷ u16_at part 8 ∷ u16_at part 10 ∷ u16_at part 12 ∷ u16_at part 14 ∷ u16_at part 16 ∷
    u16_at part 18 ∷ []

-- the Stshif is there, with a number of slots and a base that are read
pub record HasStshif (part : List ℕ) : Type 0 where
  pub long : 20 ≤ length part
  pub size : 18 ≤ cb_stshi part
  pub some : 1 ≤ cstd part
  pub few : cstd part ≤ 4094
  pub base : (std_base part ≡ 10) ⊎ (std_base part ≡ 18)

-- where the cbStd of a slot is. Profile: bytes of the Stshi after the Stshif are dropped
abbrev pub slot_place : List ℕ → ℕ → ℕ
slot_place part istd = counted_place part (2 + cb_stshi part) istd

abbrev pub std_of : List ℕ → ℕ → List ℕ
std_of part istd = counted_bytes part (slot_place part istd)

-- the slot at the place is within the part, and it is empty or holds an STD
pub record IsSlotAt (part : List ℕ) (base place : ℕ) : Type 0 where
  pub within : IsCountedPart part place
  pub style : 0 < u16_at part place → IsStd (counted_bytes part place) base

abbrev pub IsSlot : List ℕ → ℕ → Type 0
IsSlot part istd = IsSlotAt part (std_base part) (slot_place part istd)

-- each slot is
abbrev pub AreSlots : List ℕ → Type 0
AreSlots part = (istd : ℕ) → istd < cstd part → IsSlot part istd

-- an offset in the table stream is a number of 32 bits; its greatest value represents those above
abbrev pub table_offset : ℕ → ℕ → ℕ
table_offset at offset = min (at + offset) (2 ^ 32 - 1)

pub record IsWrongSlot (part : List ℕ) (at istd place : ℕ) : Type 0 where
  pub here : place ≡ table_offset at (slot_place part istd)
  pub wrong : ¬ IsSlot part istd

-- the list of paragraph properties has a fault at this offset of the STD: it is after a count and a style number
abbrev pub IsParagraphFault : List ℕ → ℕ → ℕ → Type 0
IsParagraphFault std base offset = From (upx_place std base 0 + 4) (HasSprmFaultAt (paragraph_list std base)
    paragraph_groups) offset

-- the list of character properties whose count is there has one
abbrev pub IsCharacterFault : List ℕ → ℕ → ℕ → Type 0
IsCharacterFault std at offset = From (at + 2) (HasSprmFaultAt (counted_bytes std at) character_groups) offset

-- a list of properties has a fault at this offset of the STD
abbrev pub HasUpxFault : List ℕ → ℕ → ℕ → Type 0
HasUpxFault std base offset =
    ((stk std ≡ 1) × (IsParagraphFault std base offset ⊎ IsCharacterFault std (upx_place std base 1) offset)) ⊎
    ((stk std ≡ 2) × IsCharacterFault std (upx_place std base 0) offset)

-- the same of the STD in the slot at the place, at its offset in the table stream
abbrev pub HasSlotFault : List ℕ → ℕ → ℕ → ℕ → ℕ → Type 0
HasSlotFault part base place at offset = From (at + (place + 2)) (HasUpxFault (counted_bytes part place) base) offset

abbrev pub HasStyleFault : List ℕ → ℕ → ℕ → ℕ → Type 0
HasStyleFault part at istd offset = HasSlotFault part (std_base part) (slot_place part istd) at offset

-- no list of properties has a fault
abbrev pub HasSoundLists : List ℕ → Type 0
HasSoundLists part = (istd : ℕ) → istd < cstd part → HasAcceptedLists (std_of part istd) (std_base part)

-- the rules on an STSH that is at this offset of the table stream
abbrev pub stsh_rules : List ℕ → ℕ → Rules ℕ
stsh_rules part at =
    rule 49 (λ place. (place ≡ at) × ¬ HasStshif part) then
    rule 50 (Among (cstd part) (IsWrongSlot part at)) then
    rule 51 (Among (cstd part) (HasStyleFault part at))

-- the first broken rule; want of memory is free
abbrev pub IsStyleFault : Rules ℕ → StyleFault → Type 0
IsStyleFault rules (Rule r offset) = IsFirstOffset rules r offset
IsStyleFault rules Memory = Unit {0}

-- the slot at the place is empty, or spells the style
abbrev pub SpellsSlotAt : List ℕ → ℕ → ℕ → Option Style → Type 0
SpellsSlotAt part base place None = u16_at part place ≡ 0
SpellsSlotAt part base place (Some style) = (0 < u16_at part place) × SpellsStyle (counted_bytes part place) base style

abbrev pub SpellsSlot : List ℕ → ℕ → Option Style → Type 0
SpellsSlot part istd slot = SpellsSlotAt part (std_base part) (slot_place part istd) slot

-- the part holds the sheet: slot i spells style i
pub record HasStyleSheet (part : List ℕ) (sheet : Sheet) : Type 0 where
  pub head : sheet.head ≡ stshi_words part
  pub slots : length sheet.styles ≡ cstd part
  pub styles : (istd : ℕ) → istd < cstd part → SpellsSlot part istd (style_at sheet istd)
