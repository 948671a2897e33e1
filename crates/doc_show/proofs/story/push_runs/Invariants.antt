use Rattle.std.proofs.Common.{◌≡◌, ◌≤◌, ◌++◌, ◌-◌}
use Rattle.std.specs.Prelude.{slice_range}
use Rattle.std.specs.List.{flat_map}
use Rattle.doc_model.specs.Stretches.{stretches}
use Rattle.doc_show.specs.Story.{is_one_run, run_line}
use Rattle.doc_columns.specs.Walks.{items_in, IsColumnWalk}
use Rattle.doc_show.proofs.story.push_runs.Given as goal

-- the lines of the runs so far are there
abbrev pub invariant-loop-at : goal.invariant-loop-at
invariant-loop-at l = record {
  walk : IsColumnWalk l.fn.parts l.walk l.at;
  within : l.at ≤ l.end;
  lines : l.text ++ flat_map run_line (stretches is_one_run (slice_range (items_in l.fn.parts) l.at l.end))
      ≡ l.initial.text ++ flat_map run_line (stretches is_one_run (slice_range (items_in l.fn.parts) l.from l.end));
}

abbrev pub decreases-loop-at : goal.decreases-loop-at
decreases-loop-at l = l.end - l.at
