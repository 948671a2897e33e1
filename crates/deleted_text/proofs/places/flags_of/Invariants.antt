use Rattle.std.specs.Prelude.{IsTrue, slice_index, slice_index_or}
use Rattle.std.proofs.Common.{◌≡◌, ◌↔◌, ◌+◌, ◌<◌, ℕ, false, length, drop}
use Rattle.deleted_text.specs.Places.{IsAround, IsDeletedAt}
use Rattle.deleted_text.proofs.places.flags_of.Given as goal

-- the flags so far
abbrev pub invariant-loop-left : goal.invariant-loop-left
invariant-loop-left l = record {
  around : IsAround l.wd l.bin l.around;
  left : l.left ≡ drop (length l.flags.items) l.places;
  count : length l.flags.items + length l.left ≡ length l.places;
  each : (k : ℕ) → k < length l.flags.items →
      (IsTrue (slice_index_or l.flags.items k false) ↔ IsDeletedAt l.wd l.bin (slice_index l.places k));
}

abbrev pub decreases-loop-left : goal.decreases-loop-left
decreases-loop-left l = length l.left
