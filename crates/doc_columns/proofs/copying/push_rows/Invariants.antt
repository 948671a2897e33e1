use Rattle.std.proofs.Common.{◌≡◌, ◌-◌, ◌≤◌, ◌++◌}
use Rattle.std.specs.Prelude.{replicate}
use Rattle.run_lists.specs.Spread.{expanded}
use Rattle.doc_columns.proofs.copying.push_rows.Given as goal

-- the values so far are put
abbrev pub invariant-loop-at : goal.invariant-loop-at
invariant-loop-at g l = record {
  from : l.place ≤ l.at;
  to : l.at ≤ l.end;
  rows : expanded l.rows.items ≡ expanded l.initial.rows.items ++ replicate (l.at - l.place) l.run.value;
}

abbrev pub decreases-loop-at : goal.decreases-loop-at
decreases-loop-at g l = l.end - l.at
