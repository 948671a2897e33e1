use Rattle.std.proofs.Common.{◌≡◌, ℕ, ◌+◌, ◌^◌, ◌<◌, ◌≤◌, length}
use Rattle.style_sheet.specs.Stsh.{slot_place, IsSlot}
use Rattle.style_sheet.proofs.reading.wrong_slot.Given as goal

-- the slots so far are within the part, empty or with an STD
abbrev pub invariant-loop-slot : goal.invariant-loop-slot
invariant-loop-slot l = record {
  place : l.place ≡ slot_place l.part l._slot;
  room : l.place ≤ length l.part + 2 ^ 17;
  slots : (k : ℕ) → k < l._slot → IsSlot l.part k;
}
