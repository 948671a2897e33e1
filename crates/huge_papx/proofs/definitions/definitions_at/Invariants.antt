use Rattle.std.specs.Prelude.{slice_index_or}
use Rattle.std.proofs.Common.{◌≡◌, ◌<◌, ℕ, None, length}
use Rattle.huge_papx.specs.Definitions.{IsDefinitionOf}
use Rattle.huge_papx.proofs.definitions.definitions_at.Given as goal

-- the definitions so far
abbrev pub invariant-loop-k : goal.invariant-loop-k
invariant-loop-k l = record {
  count : length l.found.items ≡ l.k;
  each : (k : ℕ) → k < length l.found.items →
      IsDefinitionOf l.stream (slice_index_or l.offsets k None) (slice_index_or l.found.items k None);
}
