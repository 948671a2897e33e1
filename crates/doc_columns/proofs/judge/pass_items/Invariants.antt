use Rattle.std.proofs.Common.{◌≤◌}
use Rattle.run_lists.specs.Places.{IsAtRunBegin}
use Rattle.doc_columns.specs.Judging.{IsPassedTo}
use Rattle.doc_columns.proofs.judge.pass_items.Given as goal

-- the items of the places so far are passed
abbrev pub invariant-loop-at : goal.invariant-loop-at
invariant-loop-at l = record {
  at : IsAtRunBegin l.fn.judged.chps.now l.cursor;
  ahead : l.cursor.begin ≤ l.at;
  passed : IsPassedTo l.fn.judged l.at l.walk;
}
