use Rattle.std.proofs.Common.{ℕ, ◌<◌, ◌≤◌, ◌-◌, length, slice_index_or}
use Rattle.doc_pictures.specs.declared.pictures.Picture.{Picture}
use Rattle.doc_pictures.proofs.files.count_before.Given as goal

-- the places before the part that is left are lesser, and those behind it are not
abbrev pub invariant-loop-low : goal.invariant-loop-low
invariant-loop-low l = record {
  ordered : l.low ≤ l.high;
  inside : l.high ≤ length l.pictures;
  below : (k : ℕ) (d : Picture) → k < l.low → (slice_index_or l.pictures k d).place < l.place;
  above : (k : ℕ) (d : Picture) → l.high ≤ k → k < length l.pictures → l.place ≤ (slice_index_or l.pictures k d).place;
}

abbrev pub decreases-loop-low : goal.decreases-loop-low
decreases-loop-low l = l.high - l.low
