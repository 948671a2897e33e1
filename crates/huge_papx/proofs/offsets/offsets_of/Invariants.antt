use Rattle.std.specs.Prelude.{slice_index, slice_index_or}
use Rattle.std.proofs.Common.{◌≡◌, ◌+◌, ◌<◌, ℕ, None, length, drop}
use Rattle.huge_papx.specs.Offsets.{IsOffsetOf}
use Rattle.huge_papx.proofs.offsets.offsets_of.Given as goal

-- the offsets so far
abbrev pub invariant-loop-left : goal.invariant-loop-left
invariant-loop-left l = record {
  left : l.left ≡ drop (length l.offsets.items) l.places;
  count : length l.offsets.items + length l.left ≡ length l.places;
  each : (k : ℕ) → k < length l.offsets.items →
      IsOffsetOf l.wd l.bin (slice_index l.places k) (slice_index l.units k) (slice_index_or l.offsets.items k None);
}

abbrev pub decreases-loop-left : goal.decreases-loop-left
decreases-loop-left l = length l.left
