use Rattle.std.proofs.Common.{◌≡◌, ◌≤◌, ◌+◌, ℕ, length, Some, slice_get}
use Rattle.doc_mends.specs.Cuts.{end_left}
use Rattle.doc_mends.proofs.cutting.counts_left.Given as goal

-- those so far
abbrev pub invariant-loop-k : goal.invariant-loop-k
invariant-loop-k l = record {
  left : l.left ≡ end_left l.flags l.k;
  few : l.left ≤ l.k;
  within : l.k ≤ length l.flags;
  len : length l.counts.items ≡ l.k + 1;
  each : (j : ℕ) → j ≤ l.k → slice_get l.counts.items j ≡ Some (end_left l.flags j);
}
