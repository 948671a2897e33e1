use Rattle.std.proofs.Common.{◌≡◌, ◌+◌, ◌-◌, ◌<◌, ◌≤◌, length, take, Some}
use Rattle.std.specs.Prelude.{slice_get, slice_range}
use Rattle.doc_bits.specs.Together.{AreTogether}
use Rattle.run_lists.specs.declared.runs.Run.{Run}
use Rattle.run_lists.specs.Spread.{expanded, total_len}
use Rattle.run_lists.proofs.change.change_range.Given as goal

-- what is left begins in the run, behind what is skipped of it; the values before it are changed
abbrev pub invariant-loop-left : goal.invariant-loop-left
invariant-loop-left g l = record {
  few : l.left ≤ l.to - l.from;
  place : 0 < l.left → total_len (take l.number l.runs) + (l.skipped + l.left) ≡ l.to;
  part : 0 < l.left → (run : Run g.row.T.Denot) → slice_get l.runs l.number ≡ Some run → l.skipped ≤ run.count;
  together : AreTogether (g.C.Change.becomes l.by) (slice_range (expanded l.runs) l.from (l.to - l.left)) l.fresh;
}

abbrev pub decreases-loop-left : goal.decreases-loop-left
decreases-loop-left g l = length l.runs - l.number
