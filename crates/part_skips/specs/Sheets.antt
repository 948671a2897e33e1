-- [MS-DOC] STSH, STD: a style sheet in whose lists the codes that are not read are skipped. Each list stays where it
-- is, and keeps its length.
use Rattle.std.specs.Prelude.{◌≡◌, ◌≢◌, ◌⊎◌, ◌↔◌, ℕ, ◌+◌, ◌<◌, ◌≤◌, List, ◌++◌, length, take, drop}
use Rattle.std.specs.Prelude.{slice_index, slice_range}
use Rattle.doc_bits.specs.Number.{u16_at}
use Rattle.prl_skips.specs.Skips.{PutsSkipped}
use Rattle.style_sheet.specs.Sheet.{Sheet}
use Rattle.style_sheet.specs.Counted.{counted_end, counted_bytes}
use Rattle.style_sheet.specs.StyleDefinition.{stk, upx_place}
use Rattle.style_sheet.specs.Stsh.{cstd, std_base, slot_place, HasStshif, AreSlots, HasStyleSheet}

-- the list behind so many bytes of what is counted at the place
abbrev pub SkipsCounted : ℕ → ℕ → List ℕ → List ℕ → Type 0
SkipsCounted at head old new = PutsSkipped old new (at + 2 + head) (counted_end old at)

-- of a style of paragraphs the list behind its style number, and then that of its characters
pub record SkipsBothLists (base : ℕ) (old new : List ℕ) : Type 0 where
  pub para : stk old ≡ 1
  pub mid : List ℕ
  pub first : SkipsCounted (upx_place old base 0) 2 old mid
  pub second : SkipsCounted (upx_place old base 1) 0 mid new

-- of a style of characters its list
pub record SkipsOneList (base : ℕ) (old new : List ℕ) : Type 0 where
  pub char : stk old ≡ 2
  pub list : SkipsCounted (upx_place old base 0) 0 old new

-- what is kept unread of styles of other kinds stays
pub record StaysOther (old new : List ℕ) : Type 0 where
  pub no_para : stk old ≢ 1
  pub no_char : stk old ≢ 2
  pub same : new ≡ old

-- the lists of a style are skipped
abbrev pub SkipsStd : ℕ → List ℕ → List ℕ → Type 0
SkipsStd base old new = SkipsBothLists base old new ⊎ (SkipsOneList base old new ⊎ StaysOther old new)

-- those of the style in a slot, where there is one, and no byte outside of it changes
pub record PutsSlot (base place : ℕ) (old new : List ℕ) : Type 0 where
  pub len : length new ≡ length old
  pub outside : (i : ℕ) → (i < place + 2) ⊎ (counted_end old place ≤ i) → slice_index new i ≡ slice_index old i
  pub std : 0 < u16_at old place → SkipsStd base (counted_bytes old place) (counted_bytes new place)

-- the slot has the number of bytes that it had, and its style is skipped
pub record SkipsSlotAt (base place : ℕ) (old new : List ℕ) : Type 0 where
  pub count : u16_at new place ≡ u16_at old place
  pub std : 0 < u16_at old place → SkipsStd base (counted_bytes old place) (counted_bytes new place)

-- no style holds the byte
abbrev pub IsInNoStyle : List ℕ → ℕ → ℕ → Type 0
IsInNoStyle part count i = (istd : ℕ) → istd < count →
    (i < slot_place part istd + 2) ⊎ (counted_end part (slot_place part istd) ≤ i)

-- all slots are skipped, and no byte outside of their styles changes
pub record SkipsSlots (old new : List ℕ) : Type 0 where
  pub stshif : HasStshif old
  pub are : AreSlots old
  pub len : length new ≡ length old
  pub front : (i : ℕ) → i < slot_place old 0 → slice_index new i ≡ slice_index old i
  pub slots : (istd : ℕ) → istd < cstd old → SkipsSlotAt (std_base old) (slot_place old istd) old new
  pub outside : (i : ℕ) → IsInNoStyle old (cstd old) i → slice_index new i ≡ slice_index old i

-- a part that is no style sheet stays
pub record StaysSheet (old new : List ℕ) : Type 0 where
  pub wrong : ¬ (HasStshif old × AreSlots old)
  pub same : new ≡ old

abbrev pub SkipsSheet : List ℕ → List ℕ → Type 0
SkipsSheet old new = SkipsSlots old new ⊎ StaysSheet old new

-- the sheet that is in this range of a stream is skipped, and nothing else changes
pub record PutsSheet (from to : ℕ) (old new : List ℕ) : Type 0 where
  pub sheet : List ℕ
  pub skips : SkipsSheet (slice_range old from to) sheet
  pub len : length sheet ≡ length (slice_range old from to)
  pub put : new ≡ take from old ++ (sheet ++ drop to old)

-- a sheet is skipped in one way
abbrev pub SheetsAreSkippedAlone : Type 0
SheetsAreSkippedAlone = (old one other : List ℕ) → SkipsSheet old one → SkipsSheet old other → one ≡ other

-- it holds the same styles
abbrev pub SkippedSheetsMeanTheSame : Type 0
SkippedSheetsMeanTheSame = (old new : List ℕ) (sheet : Sheet) → SkipsSheet old new →
    (HasStyleSheet new sheet ↔ HasStyleSheet old sheet)
