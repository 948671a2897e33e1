use Rattle.std.proofs.Common.{◌≡◌, ◌+◌, ◌-◌, ◌≤◌, ◌++◌, length}
use Rattle.std.specs.Prelude.{slice_range, replicate}
use Rattle.run_lists.specs.Spread.{expanded}
use Rattle.run_lists.specs.Places.{IsAtRunBegin}
use Rattle.doc_columns.specs.Columns.{items_of}
use Rattle.doc_columns.proofs.collect.push_run.Given as goal

-- the items of the places so far are put
abbrev pub invariant-loop-at : goal.invariant-loop-at
invariant-loop-at l = record {
  at : IsAtRunBegin l.fn.parts.chps.now l.cursor;
  ahead : l.cursor.begin ≤ l.at;
  items : l.items ≡ l.fn.items ++ items_of
      (slice_range l.fn.parts.units.now l.place l.at)
      (slice_range (expanded l.fn.parts.chps.now) l.place l.at)
      (replicate (l.at - l.place) l.fn.run.value);
  long : length l.items ≡ length l.fn.items + (l.at - l.place);
}
