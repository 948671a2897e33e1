use Rattle.std.proofs.Common.{ℕ, ◌<◌}
use Rattle.std.specs.Prelude.{slice_index_or}
use Rattle.prop_map.specs.Settings.{Properties}
use Rattle.run_lists.specs.declared.runs.Run.{Run}
use Rattle.plain_doc.specs.RulesOfItems.{IsShortChp}
use Rattle.doc_columns.proofs.judge.are_short.Given as goal

-- the properties of the runs so far are short, where the run has a value
abbrev pub invariant-loop-run : goal.invariant-loop-run
invariant-loop-run l =
    (d : Run Properties) (k : ℕ) → k < l.run-index → 0 < (slice_index_or l.chps k d).count →
    IsShortChp (slice_index_or l.chps k d).value
