use Rattle.std.proofs.Common.{◌≢◌, ℕ, ◌+◌, ◌-◌, ◌<◌, ◌≤◌, length, slice_index}
use Rattle.cfb_sectors.proofs.ends.count_from.Given as goal

abbrev pub invariant-loop-count : goal.invariant-loop-count
invariant-loop-count l = record {
  some : 0 < l.count;
  inside : l.count ≤ length l.path;
  behind : (j : ℕ) → length l.path < j + l.count → j < length l.path → slice_index l.path j ≢ l.sector;
}

abbrev pub decreases-loop-count : goal.decreases-loop-count
decreases-loop-count l = length l.path - l.count
