-- [MS-DOC] STSH: how a style sheet is changed of which a slot breaks rule 50 or 51.
use Rattle.std.specs.Prelude.{◌≡◌, ◌⊎◌, ℕ, suc, ◌+◌, ◌≤◌, [], ◌∷◌, drop}
use Rattle.doc_bits.specs.Number.{number_bytes}
use Rattle.style_sheet.specs.Stsh.{HasStshif, slot_place}
use Rattle.file_mends.specs.declared.mends.FileMend.TheVariants.{StyleEmptied, StylesCut}
use Rattle.file_mends.specs.declared.sheet_changes.SheetChange.{SheetChange}
use Rattle.file_mends.specs.SheetPlaces.{SheetPlace}
use Rattle.file_mends.specs.Slots.{IsSlotOf, AreSlotsWithin}

-- where all slots are within the sheet the slot is empty: its cbStd is 0, and the slots behind it follow at once. Slot
-- 0 stays
pub record IsEmptied (sheet : SheetPlace) (istd : ℕ) (change : SheetChange) : Type 0 where
  pub some : 1 ≤ istd
  pub within : AreSlotsWithin sheet.part
  pub change_is : change ≡ record {
    mend = StyleEmptied istd;
    at = sheet.at + slot_place sheet.part istd;
    bytes = 0 ∷ 0 ∷ drop (slot_place sheet.part (suc istd)) sheet.part;
  }

-- [MS-DOC] cstd: else the sheet has the slots before it alone, 15 at least, which have numbers that do not change
pub record IsCutBefore (sheet : SheetPlace) (istd : ℕ) (change : SheetChange) : Type 0 where
  pub least : 15 ≤ istd
  pub leaves : ¬ AreSlotsWithin sheet.part
  pub change_is : change ≡ record { mend = StylesCut istd; at = sheet.at + 2; bytes = number_bytes 2 istd }

abbrev pub ChangesSlot : SheetPlace → ℕ → SheetChange → Type 0
ChangesSlot sheet istd change = IsEmptied sheet istd change ⊎ IsCutBefore sheet istd change

abbrev pub IsSheetRule : ℕ → Type 0
IsSheetRule rule = (rule ≡ 50) ⊎ (rule ≡ 51)

-- the slot in which the rule is broken is changed so
pub record ChangesSheet (sheet : SheetPlace) (rule offset : ℕ) (change : SheetChange) : Type 0 where
  pub rule_is : IsSheetRule rule
  pub stshif : HasStshif sheet.part
  pub istd : ℕ
  pub slot : IsSlotOf sheet.part sheet.at offset istd
  pub how : ChangesSlot sheet istd change
