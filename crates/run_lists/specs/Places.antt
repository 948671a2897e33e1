-- Places of a list in its runs.
use Rattle.std.specs.Prelude.{◌≡◌, ℕ, ◌+◌, ◌<◌, ◌≤◌, List, Some, length, take, slice_get}
use Rattle.run_lists.specs.declared.runs.Run.{Run}
use Rattle.run_lists.specs.declared.cut.Spot.{Spot}
use Rattle.run_lists.specs.declared.cursor.Cursor.{Cursor}
use Rattle.run_lists.specs.Spread.{total_len}

-- the place, counted from where the run `begin` begins, is in the run of the spot, or behind the last run
pub record IsFoundSpot {T : Type 0} (runs : List (Run T)) (begin place : ℕ) (spot : Spot) : Type 0 where
  pub begun : begin ≤ spot.run
  pub there : spot.run ≤ length runs
  pub here : total_len (take spot.run runs) + spot.left ≡ total_len (take begin runs) + place
  pub inside : spot.run < length runs → (run : Run T) × (slice_get runs spot.run ≡ Some run) × (spot.left < run.count)
  pub ended : spot.run ≡ length runs → spot.left ≡ 0

-- in the new runs, the run `k` begins at the place, and those before `begin` are the old ones
pub record AreCutRuns {T : Type 0} (old new : List (Run T)) (begin place k : ℕ) : Type 0 where
  pub begun : begin ≤ k
  pub there : k ≤ length new
  pub here : total_len (take k new) ≡ total_len (take begin old) + place
  pub before : take begin new ≡ take begin old

-- the cursor is where a run begins, or at the end
pub record IsAtRunBegin {T : Type 0} (runs : List (Run T)) (cursor : Cursor) : Type 0 where
  pub there : cursor.run ≤ length runs
  pub begins : total_len (take cursor.run runs) ≡ cursor.begin

-- the run of the cursor has the place
pub record IsIn {T : Type 0} (runs : List (Run T)) (cursor : Cursor) (place : ℕ) : Type 0 where
  pub run : Run T
  pub there : slice_get runs cursor.run ≡ Some run
  pub inside : place < cursor.begin + run.count
