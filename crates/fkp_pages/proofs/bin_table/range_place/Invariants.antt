use Rattle.std.proofs.Common.{ℕ, ◌+◌, ◌-◌, ◌<◌, ◌≤◌}
use Rattle.doc_bits.specs.Plc.{plc_cp}
use Rattle.fkp_pages.specs.Bin.{bin_count}
use Rattle.fkp_pages.proofs.bin_table.range_place.Given as goal

-- the ranges below `low` end at or before the place, and those from `high` on begin after it
abbrev pub invariant-loop-low : goal.invariant-loop-low
invariant-loop-low l =
    record {
      order : l.low ≤ l.high;
      within : l.high ≤ bin_count l.bin;
      below : (k : ℕ) → k < l.low → plc_cp l.bin (k + 1) ≤ l.fc;
      above : (k : ℕ) → l.high ≤ k → k < bin_count l.bin → l.fc < plc_cp l.bin k;
    }

abbrev pub decreases-loop-low : goal.decreases-loop-low
decreases-loop-low l = l.high - l.low
