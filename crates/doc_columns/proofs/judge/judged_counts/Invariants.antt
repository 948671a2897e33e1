use Rattle.std.proofs.Common.{◌≡◌, ◌≤◌, take}
use Rattle.run_lists.specs.Spread.{total_len}
use Rattle.run_lists.specs.Places.{IsAtRunBegin}
use Rattle.doc_columns.specs.Judging.{IsPassedTo}
use Rattle.doc_columns.proofs.judge.judged_counts.Given as goal

-- the items of the runs so far are passed
abbrev pub invariant-loop-run : goal.invariant-loop-run
invariant-loop-run l = record {
  place : l.place ≡ total_len (take l.run-index l.run-items);
  at : IsAtRunBegin l.judged.chps.now l.cursor;
  ahead : l.cursor.begin ≤ l.place;
  passed : IsPassedTo l.judged l.place l.walk;
}
