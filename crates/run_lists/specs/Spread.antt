-- The list that runs represent, and how long it is.
use Rattle.std.specs.Prelude.{ℕ, List, flat_map, replicate, sum_by}
use Rattle.run_lists.specs.declared.runs.Run.{Run}

-- each value as often as its run says
unfoldable pub expanded : {T : Type 0} → List (Run T) → List T
expanded runs = flat_map (λ run. replicate run.count run.value) runs

-- the counts of the runs together
unfoldable pub total_len : {T : Type 0} → List (Run T) → ℕ
total_len runs = sum_by (λ run. run.count) runs
