-- [MS-DOC] STSH: the slot of a style sheet in which an offset of the table stream is. `at` is where the sheet begins.
use Rattle.std.specs.Prelude.{ℕ, ◌+◌, ◌<◌, ◌≤◌, List}
use Rattle.style_sheet.specs.Counted.{counted_end, IsCountedPart}
use Rattle.style_sheet.specs.Stsh.{cstd, slot_place}

-- the slot at a place is within the sheet, and ends at or before the offset
pub record SlotEndsBefore (part : List ℕ) (at place offset : ℕ) : Type 0 where
  pub within : IsCountedPart part place
  pub ends : at + counted_end part place ≤ offset

-- the first slot that does not
pub record IsSlotOf (part : List ℕ) (at offset istd : ℕ) : Type 0 where
  pub slot : istd < cstd part
  pub before : (k : ℕ) → k < istd → SlotEndsBefore part at (slot_place part k) offset
  pub here : ¬ SlotEndsBefore part at (slot_place part istd) offset

-- all slots are within the sheet
abbrev pub AreSlotsWithin : List ℕ → Type 0
AreSlotsWithin part = (k : ℕ) → k < cstd part → IsCountedPart part (slot_place part k)
