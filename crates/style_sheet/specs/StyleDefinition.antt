-- [MS-DOC] STD: a style. Its fields by their offsets; `base` is cbSTDBaseInFile, where the name begins. Bits are
-- counted
-- from the lowest.
use Rattle.std.specs.Prelude.{◌≡◌, ℕ, ◌+◌, ◌*◌, ◌/◌, ◌%◌, ◌<◌, ◌≤◌, ◌==◌, if◌then◌else◌, List, length, slice_index}
use Rattle.std.specs.Prelude.{slice_index_or, drop, Option, Some, None}
use Rattle.std.specs.FinMap.{empty}
use Rattle.doc_bits.specs.Number.{u16_at}
use Rattle.sprm_table.specs.Sprm.{Prl, SpellsSprmList, IsAcceptedList}
use Rattle.prop_map.specs.Settings.{Properties}
use Rattle.prop_map.specs.Formed.{character_groups, paragraph_groups}
use Rattle.prop_map.specs.Acting.{ArePropertiesAfter}
use Rattle.style_sheet.specs.declared.styles.Style.{Style}
use Rattle.style_sheet.specs.declared.styles.Kind.{Kind}
use Rattle.style_sheet.specs.declared.styles.Kind.TheVariants.{Para, Char, Other}
use Rattle.style_sheet.specs.Counted.{counted_place, counted_bytes, IsCountedPart}

-- the kind in bits 0 to 3 of the second word
abbrev pub stk : List ℕ → ℕ
stk std = u16_at std 2 % 16

-- the number of upxes, in bits 0 to 3 of the third word
abbrev pub cupx : List ℕ → ℕ
cupx std = u16_at std 4 % 16

-- the units of the name, after their count
abbrev pub style_name_len : List ℕ → ℕ → ℕ
style_name_len std base = u16_at std base

-- the upxes come after the name and a zero unit
abbrev pub upxes_start : List ℕ → ℕ → ℕ
upxes_start std base = base + 4 + 2 * style_name_len std base

abbrev pub upx_place : List ℕ → ℕ → ℕ → ℕ
upx_place std base k = counted_place std (upxes_start std base) k

abbrev pub upx : List ℕ → ℕ → ℕ → List ℕ
upx std base k = counted_bytes std (upx_place std base k)

-- the name is within the STD, and a zero unit is after it
pub record HasName (std : List ℕ) (base : ℕ) : Type 0 where
  pub count : base + 2 ≤ length std
  pub units : upxes_start std base ≤ length std
  pub ended : u16_at std (base + 2 + 2 * style_name_len std base) ≡ 0

-- the kind is 1 to 4; a style of paragraphs has two upxes, one of characters has one
pub record HasKind (std : List ℕ) : Type 0 where
  pub some : 1 ≤ stk std
  pub most : stk std ≤ 4
  pub para : stk std ≡ 1 → cupx std ≡ 2
  pub char : stk std ≡ 2 → cupx std ≡ 1

-- the upxes fill the STD. Profile: the pad of the last one may be missing
pub record HasUpxes (std : List ℕ) (base : ℕ) : Type 0 where
  pub within : (k : ℕ) → k < cupx std → IsCountedPart std (upx_place std base k)
  pub all : length std ≤ upx_place std base (cupx std)

-- the STD is as the standard has it; the first upx of a style of paragraphs begins with a style number
pub record IsStd (std : List ℕ) (base : ℕ) : Type 0 where
  pub name : HasName std base
  pub kind : HasKind std
  pub upxes : HasUpxes std base
  pub istd : stk std ≡ 1 → 2 ≤ u16_at std (upx_place std base 0)

-- the properties that a list makes of none
pub record IsMapOf (bytes : List ℕ) (groups : ℕ) (map : Properties) : Type 0 where
  pub list : List Prl
  pub spelt : SpellsSprmList bytes list
  pub acted : ArePropertiesAfter list groups empty map

-- the list of paragraph properties of a style of paragraphs, after the style number, and that of its character
-- properties
abbrev pub paragraph_list : List ℕ → ℕ → List ℕ
paragraph_list std base = drop 2 (upx std base 0)

-- no list of properties has a fault
pub record HasParagraphLists (std : List ℕ) (base : ℕ) : Type 0 where
  pub paragraphs : IsAcceptedList (paragraph_list std base) paragraph_groups
  pub characters : IsAcceptedList (upx std base 1) character_groups

pub record HasAcceptedLists (std : List ℕ) (base : ℕ) : Type 0 where
  pub para : stk std ≡ 1 → HasParagraphLists std base
  pub char : stk std ≡ 2 → IsAcceptedList (upx std base 0) character_groups

-- upx k is entry k of the list
pub record AreUpxes (std : List ℕ) (base : ℕ) (upxes : List (List ℕ)) : Type 0 where
  pub count : length upxes ≡ cupx std
  pub each : (k : ℕ) (d : List ℕ) → k < cupx std → slice_index_or upxes k d ≡ upx std base k

-- the units of the name are those after their count
pub record IsStyleName (std : List ℕ) (base : ℕ) (name : List ℕ) : Type 0 where
  pub count : length name ≡ style_name_len std base
  pub each : (i : ℕ) → i < style_name_len std base → slice_index name i ≡ u16_at std (base + 2 + 2 * i)

-- the kind with its properties, or with its upxes as they are
abbrev pub SpellsKind : List ℕ → ℕ → Kind → Type 0
SpellsKind std base (Para pap chp) =
    (stk std ≡ 1) × (IsMapOf (paragraph_list std base) paragraph_groups pap × IsMapOf (upx std base 1)
    character_groups chp)
SpellsKind std base (Char chp) = (stk std ≡ 2) × IsMapOf (upx std base 0) character_groups chp
SpellsKind std base (Other kind upxes) = (kind ≡ stk std) × ((3 ≤ stk std) × AreUpxes std base upxes)

-- a number of 12 bits, of which 0xFFF is none
abbrev pub istd_base : ℕ → Option ℕ
istd_base number = if number == 0xFFF then None else Some number

-- the STD spells the style
pub record SpellsStyle (std : List ℕ) (from : ℕ) (style : Style) : Type 0 where
  pub sti : style.sti ≡ u16_at std 0 % 4096
  pub flags : style.flags ≡ u16_at std 0 / 4096
  pub base : style.base ≡ istd_base (u16_at std 2 / 16)
  pub next : style.next ≡ u16_at std 4 / 16
  pub grfstd : style.grfstd ≡ u16_at std 8
  pub name : IsStyleName std from style.name
  pub kind : SpellsKind std from style.kind
