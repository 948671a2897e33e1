use Rattle.std.proofs.Common.{◌≡◌, ◌+◌, ◌≤◌, Some, length, take}
use Rattle.std.specs.Prelude.{slice_get}
use Rattle.run_lists.specs.declared.runs.Run.{Run}
use Rattle.run_lists.specs.Spread.{expanded, total_len}
use Rattle.doc_columns.specs.declared.attached.Attached.{Attached}
use Rattle.doc_patch.proofs.PlaceLemmas.{HasNone, IsWalkedTo}
use Rattle.doc_patch.proofs.places.first_place.Given as goal

-- no run so far shows the part, and the next one reaches the place
abbrev pub invariant-loop-number : goal.invariant-loop-number
invariant-loop-number l = record {
  begins : l.begin ≡ total_len (take l.number l.runs);
  reach : (run : Run Attached) → slice_get l.runs l.number ≡ Some run → IsWalkedTo l.at (l.begin + run.count) run.count;
  ended : length l.runs ≤ l.number → l.at ≤ l.begin;
  none : HasNone l.part (expanded l.runs) l.at l.begin;
}
