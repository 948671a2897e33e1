use Rattle.std.proofs.Common.{◌≡◌, ◌<◌, ℕ, length, slice_index}
use Rattle.cfb_in_place.specs.Tables.{IsEntryAfter}
use Rattle.cfb_in_place.proofs.tables.fat_after.Given as goal

abbrev pub invariant-loop-sector : goal.invariant-loop-sector
invariant-loop-sector l = record {
  len : length l.fat.items ≡ l.sector;
  each : (k : ℕ) → k < l.sector → IsEntryAfter l.entries l.added k (slice_index l.fat.items k);
}
