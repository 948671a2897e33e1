use Rattle.std.proofs.Common.{◌≡◌, ◌≤◌, take, not}
use Rattle.std.specs.List.{count_by}
use Rattle.doc_mends.proofs.cutting.unflagged_count.Given as goal

-- those so far
abbrev pub invariant-loop-k : goal.invariant-loop-k
invariant-loop-k l = record {
  count : l.count ≡ count_by not (take l.k l.flags);
  few : l.count ≤ l.k;
}
