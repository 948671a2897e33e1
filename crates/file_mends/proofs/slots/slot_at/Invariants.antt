use Rattle.std.proofs.Common.{◌≡◌, ℕ, ◌+◌, ◌^◌, ◌<◌, ◌≤◌, length}
use Rattle.style_sheet.specs.Stsh.{slot_place}
use Rattle.file_mends.specs.Slots.{SlotEndsBefore}
use Rattle.file_mends.proofs.slots.slot_at.Given as goal

-- the slots so far end at or before the offset
abbrev pub invariant-loop-istd : goal.invariant-loop-istd
invariant-loop-istd l = record {
  place : l.place ≡ slot_place l.part l.istd;
  before : (k : ℕ) → k < l.istd → SlotEndsBefore l.part l.at (slot_place l.part k) l.offset;
}
