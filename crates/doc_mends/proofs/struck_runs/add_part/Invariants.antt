use Rattle.std.proofs.Common.{◌≡◌, ◌-◌, ◌≤◌, ◌++◌}
use Rattle.std.specs.Prelude.{slice_range}
use Rattle.run_lists.specs.Spread.{expanded}
use Rattle.run_lists.specs.Places.{IsAtRunBegin}
use Rattle.doc_mends.specs.Striking.{part_values}
use Rattle.doc_mends.proofs.struck_runs.add_part.Given as goal

-- the part is made up to the place, and the cursor is not behind it
abbrev pub invariant-loop-at : goal.invariant-loop-at
invariant-loop-at l = record {
  cursor_at : IsAtRunBegin l.runs l.cursor;
  ahead : l.cursor.begin ≤ l.at;
  begun : l.part.from ≤ l.at;
  within : l.at ≤ l.part.to;
  made : l.made ≡ l.fn.made ++ part_values l.part.struck (slice_range (expanded l.runs) l.part.from l.at);
}

abbrev pub decreases-loop-at : goal.decreases-loop-at
decreases-loop-at l = l.part.to - l.at
