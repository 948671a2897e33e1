use Rattle.std.proofs.Common.{◌≡◌, ◌≤◌, take}
use Rattle.run_lists.specs.Spread.{total_len}
use Rattle.run_lists.specs.Places.{IsAtRunBegin}
use Rattle.doc_columns.proofs.columns.Columns.expand.Given as goal

-- the items of the runs so far are put
abbrev pub invariant-loop-run : goal.invariant-loop-run
invariant-loop-run l = record {
  place : l.place ≡ total_len (take l.run-index l.run-items);
  at : IsAtRunBegin l.parts.chps.now l.cursor;
  ahead : l.cursor.begin ≤ l.place;
  items : l.items ≡ take l.place l.fn.self;
}
