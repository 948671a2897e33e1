use Rattle.std.proofs.Common.{ℕ, ◌-◌, ◌≤◌, List}
use Rattle.run_lists.specs.Spread.{expanded, total_len}
use Rattle.run_lists.specs.Places.{IsAtRunBegin}
use Rattle.run_lists.specs.declared.cursor.Cursor.{Cursor}
use Rattle.run_lists.specs.declared.runs.Run.{Run}
use Rattle.prop_map.specs.Settings.{Properties}
use Rattle.doc_mends.proofs.MendLemmas.{PassUpTo}
use Rattle.doc_mends.proofs.judging.range_stays_short.Given as goal

-- the properties up to the place pass, and the cursor is not behind it
pub record PassedTo (runs : List (Run Properties)) (cursor : Cursor) (from at : ℕ) : Type 0 where
  pub cursor_at : IsAtRunBegin runs cursor
  pub ahead : cursor.begin ≤ at
  pub within : at ≤ total_len runs
  pub pass : PassUpTo (expanded runs) from at

abbrev pub invariant-loop-at : goal.invariant-loop-at
invariant-loop-at l = PassedTo l.runs l.cursor l.range.from l.at

abbrev pub decreases-loop-at : goal.decreases-loop-at
decreases-loop-at l = l.range.to - l.at
