use Rattle.std.proofs.Common.{◌≡◌, ◌≤◌, ◌++◌, take, drop, length}
use Rattle.run_lists.specs.Spread.{expanded}
use Rattle.run_lists.specs.Places.{IsAtRunBegin}
use Rattle.doc_mends.specs.Batches.{RangesAscend}
use Rattle.doc_mends.specs.Striking.{chps_struck}
use Rattle.doc_mends.proofs.struck_runs.strike_chps.Given as goal

-- what is made, with the rest behind it, has the first ranges struck; the others begin at the place, or behind
abbrev pub invariant-loop-k : goal.invariant-loop-k
invariant-loop-k l = record {
  cursor_at : IsAtRunBegin l.runs l.cursor;
  ahead : l.cursor.begin ≤ l.at;
  within : l.at ≤ l.len;
  ascend : RangesAscend l.batch.story l.at (drop l.k l.batch.ranges.now);
  long : length l.made ≡ l.at;
  made : l.made ++ drop l.at (expanded l.runs) ≡ chps_struck (take l.k l.batch.ranges.now) (expanded l.runs);
}
