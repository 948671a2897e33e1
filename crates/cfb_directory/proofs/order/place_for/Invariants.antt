use Rattle.std.proofs.Common.{ℕ, ◌<◌, ◌≤◌, ◌-◌, length, slice_index}
use Rattle.cfb_directory.specs.Directory.{EntryBefore}
use Rattle.cfb_directory.specs.Reach.{entry_place}
use Rattle.cfb_directory.proofs.order.place_for.Given as goal

-- the place is between the halves
abbrev pub invariant-loop-low : goal.invariant-loop-low
invariant-loop-low l = record {
  ordered : l.low ≤ l.high;
  inside : l.high ≤ length l.entries;
  before : (k : ℕ) → k < l.low →
      ¬ EntryBefore l.file (entry_place l.directory l.entry) (entry_place l.directory (slice_index l.entries k));
  after : l.high < length l.entries →
      EntryBefore l.file (entry_place l.directory l.entry) (entry_place l.directory (slice_index l.entries l.high));
}

abbrev pub decreases-loop-low : goal.decreases-loop-low
decreases-loop-low l = l.high - l.low
