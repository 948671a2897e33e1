-- The slots of a style sheet, and the changes of it.
use Rattle.std.proofs.Common.{◌≡◌, ◌⊎◌, ◌∙◌, inl, inr, sym, ap, subst, ℕ, suc, ◌+◌, ◌<◌, ◌≤◌, List, [], ◌∷◌, ◌++◌, drop, arith, length, length-drop}
use Rattle.std.proofs.Common.{Option, Some, None, MatchOption}
use Rattle.std.proofs.lemmas.Bool.{cases_lt}
use Rattle.doc_bits.specs.Number.{AreBytes, number_bytes}
use Rattle.doc_bits.proofs.Public.{AreBytes-drop, joined_bytes, length-number_bytes, number_are_bytes, one_byte}
use Rattle.style_sheet.specs.Counted.{IsCountedPart, counted_end}
use Rattle.style_sheet.specs.Stsh.{HasStshif, cstd, slot_place}
use Rattle.file_mends.specs.declared.sheet_changes.SheetChange.{SheetChange}
use Rattle.file_mends.specs.SheetPlaces.{SheetPlace}
use Rattle.file_mends.specs.Slots.{SlotEndsBefore, IsSlotOf, AreSlotsWithin}
use Rattle.file_mends.specs.SheetChanges.{IsEmptied, IsCutBefore, ChangesSlot, ChangesSheet, IsSheetRule}

-- an offset is in one slot
pub slot_one : (part : List ℕ) (at offset a b : ℕ) → IsSlotOf part at offset a → IsSlotOf part at offset b → a ≡ b
slot_one part at offset a b x y = elim (cases_lt a b) [
  | inl low ↦ absurd (x.here (y.before a low))
  | inr high ↦ elim (cases_lt b a) [
    | inl low ↦ absurd (y.here (x.before b low))
    | inr more ↦ omega (arith, high, more)
  ]
]

-- a slot is changed in one way
change_one : (sheet : SheetPlace) (istd : ℕ) (a b : SheetChange) → ChangesSlot sheet istd a → ChangesSlot sheet istd b →
    a ≡ b
change_one sheet istd a b (inl x) (inl y) = x.change_is ∙ sym y.change_is
change_one sheet istd a b (inl x) (inr y) = absurd (y.leaves x.within)
change_one sheet istd a b (inr x) (inl y) = absurd (x.leaves y.within)
change_one sheet istd a b (inr x) (inr y) = x.change_is ∙ sym y.change_is

pub sheet_change_one : (sheet : SheetPlace) (rule offset : ℕ) (a b : SheetChange) → ChangesSheet sheet rule offset a →
    ChangesSheet sheet rule offset b → a ≡ b
sheet_change_one sheet rule offset a b x y =
    let same : x.istd ≡ y.istd = slot_one sheet.part sheet.at offset x.istd y.istd x.slot y.slot in
    change_one sheet y.istd a b (subst (λ istd. ChangesSlot sheet istd a) same x.how) y.how

-- what is put there are bytes
slot_bytes : (sheet : SheetPlace) (istd : ℕ) (change : SheetChange) → AreBytes sheet.part →
    ChangesSlot sheet istd change → AreBytes change.bytes
slot_bytes sheet istd change are (inl x) =
    subst AreBytes (sym (ap (λ (c : SheetChange). c.bytes) x.change_is))
    (joined_bytes (0 ∷ 0 ∷ []) (drop (slot_place sheet.part (suc istd)) sheet.part)
    (joined_bytes (0 ∷ []) (0 ∷ []) (one_byte 0 (omega arith)) (one_byte 0 (omega arith)))
    (AreBytes-drop (slot_place sheet.part (suc istd)) sheet.part are))
slot_bytes sheet istd change are (inr x) =
    subst AreBytes (sym (ap (λ (c : SheetChange). c.bytes) x.change_is)) (number_are_bytes istd)

pub change_bytes : (sheet : SheetPlace) (rule offset : ℕ) (change : SheetChange) → AreBytes sheet.part →
    ChangesSheet sheet rule offset change → AreBytes change.bytes
change_bytes sheet rule offset change are is = slot_bytes sheet is.istd change are is.how

-- how far they reach
emptied_room : (part : List ℕ) (at istd : ℕ) → istd < cstd part → AreSlotsWithin part →
    at + slot_place part istd + length (0 ∷ 0 ∷ drop (slot_place part (suc istd)) part) ≤ at + length part + 4
emptied_room part at istd low within =
    let here = within istd low in
    let rest = length-drop (slot_place part (suc istd)) part in
    omega (arith, here, rest)

cut_room : (at istd : ℕ) (part : List ℕ) → at + 2 + length (number_bytes 2 istd) ≤ at + length part + 4
cut_room at istd part = let two = length-number_bytes 2 istd in omega (arith, two)

slot_room : (sheet : SheetPlace) (istd : ℕ) (change : SheetChange) → istd < cstd sheet.part →
    ChangesSlot sheet istd change → change.at + length change.bytes ≤ sheet.at + length sheet.part + 4
slot_room sheet istd change low (inl x) =
    subst (λ (c : SheetChange). c.at + length c.bytes ≤ sheet.at + length sheet.part + 4) (sym x.change_is)
    (emptied_room sheet.part sheet.at istd low x.within)
slot_room sheet istd change low (inr x) =
    subst (λ (c : SheetChange). c.at + length c.bytes ≤ sheet.at + length sheet.part + 4) (sym x.change_is)
    (cut_room sheet.at istd sheet.part)

-- ---- for the code

-- no slot of the sheet ends behind the offset
pub no_slot : (part : List ℕ) (at offset count : ℕ) → count ≡ cstd part →
    ((k : ℕ) → k < count → SlotEndsBefore part at (slot_place part k) offset) → (istd : ℕ) → ¬ IsSlotOf part at offset
    istd
no_slot part at offset count is all istd slot =
    let low = slot.slot in slot.here (all istd (omega (arith, is, low)))

-- the change of the slot is that of the sheet
pub slot_changed : (sheet : SheetPlace) (rule offset istd : ℕ) (found : Option SheetChange) → IsSheetRule rule →
    HasStshif sheet.part → IsSlotOf sheet.part sheet.at offset istd →
    MatchOption found ((change : SheetChange) → ¬ ChangesSlot sheet istd change) (ChangesSlot sheet istd) →
    MatchOption found ((change : SheetChange) → ¬ ChangesSheet sheet rule offset change)
    (ChangesSheet sheet rule offset)
slot_changed sheet rule offset istd None rule_is stshif slot none = λ change changes.
    let same : changes.istd ≡ istd = slot_one sheet.part sheet.at offset changes.istd istd changes.slot slot in
    none change (subst (λ k. ChangesSlot sheet k change) same changes.how)
slot_changed sheet rule offset istd (Some change) rule_is stshif slot how =
    record { rule_is = rule_is; stshif = stshif; istd = istd; slot = slot; how = how }

-- what is put is not behind the sheet
pub change_room : (sheet : SheetPlace) (rule offset : ℕ) (change : SheetChange) → ChangesSheet sheet rule offset change →
    change.at + length change.bytes ≤ sheet.at + length sheet.part + 4
change_room sheet rule offset change is =
    let slot = is.slot in slot_room sheet is.istd change slot.slot is.how
