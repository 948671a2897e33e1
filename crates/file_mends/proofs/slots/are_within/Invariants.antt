use Rattle.std.proofs.Common.{◌≡◌, ℕ, ◌<◌}
use Rattle.style_sheet.specs.Counted.{IsCountedPart}
use Rattle.style_sheet.specs.Stsh.{slot_place}
use Rattle.file_mends.proofs.slots.are_within.Given as goal

-- the slots so far are within the sheet
abbrev pub invariant-loop-istd : goal.invariant-loop-istd
invariant-loop-istd l = record {
  place : l.place ≡ slot_place l.part l._istd;
  within : (k : ℕ) → k < l._istd → IsCountedPart l.part (slot_place l.part k);
}
