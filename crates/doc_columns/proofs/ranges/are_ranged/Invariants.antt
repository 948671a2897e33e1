use Rattle.std.proofs.Common.{ℕ, ◌<◌}
use Rattle.std.specs.Prelude.{slice_index_or}
use Rattle.run_lists.specs.declared.runs.Run.{Run}
use Rattle.doc_columns.specs.declared.attached.Attached.{Attached}
use Rattle.doc_columns.specs.Attached.{IsRanged}
use Rattle.doc_columns.proofs.ranges.are_ranged.Given as goal

-- what is beside is ranged in the runs so far
abbrev pub invariant-loop-run : goal.invariant-loop-run
invariant-loop-run l = (d : Run Attached) (k : ℕ) → k < l.run-index → IsRanged (slice_index_or l.runs k d).value
