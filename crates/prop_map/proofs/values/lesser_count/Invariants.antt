use Rattle.std.proofs.Common.{ℕ, ◌<◌, ◌≤◌, ◌-◌, length, slice_index_or}
use Rattle.prop_map.specs.declared.values.SetValue.{SetValue}
use Rattle.prop_map.proofs.values.lesser_count.Given as goal

-- the codes before the part that is left are lesser, and those behind it are not
abbrev pub invariant-loop-low : goal.invariant-loop-low
invariant-loop-low l = record {
  ordered : l.low ≤ l.high;
  inside : l.high ≤ length l.values;
  below : (k : ℕ) (d : SetValue) → k < l.low → (slice_index_or l.values k d).code.0 < l.code.0;
  above : (k : ℕ) (d : SetValue) → l.high ≤ k → k < length l.values → l.code.0 ≤ (slice_index_or l.values k d).code.0;
}

abbrev pub decreases-loop-low : goal.decreases-loop-low
decreases-loop-low l = l.high - l.low
