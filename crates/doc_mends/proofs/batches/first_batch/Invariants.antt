use Rattle.std.proofs.Common.{◌≡◌, take}
use Rattle.doc_mends.specs.Batches.{RangesAscend, last_range_end}
use Rattle.doc_mends.proofs.batches.first_batch.Given as goal

-- the first ranges ascend, and the last of them ends at the place
abbrev pub invariant-loop-k : goal.invariant-loop-k
invariant-loop-k l = record {
  ascend : RangesAscend l.first.story 0 (take l.k l.ranges);
  end : l.at ≡ last_range_end 0 (take l.k l.ranges);
}
