use Rattle.std.proofs.Common.{◌≡◌, ℕ, ◌<◌, ◌≤◌, ◌-◌, None, Some}
use Rattle.std.specs.Prelude.{slice_get}
use Rattle.run_lists.specs.Spread.{expanded}
use Rattle.run_lists.specs.Places.{IsAtRunBegin}
use Rattle.doc_columns.specs.declared.attached.Attached.{Attached}
use Rattle.doc_columns.proofs.walk.paragraph_end.Given as goal

-- no mark is between the place and here
abbrev pub invariant-loop-at : goal.invariant-loop-at
invariant-loop-at l = record {
  cursor : IsAtRunBegin l.attachments l.marks;
  ahead : l.marks.begin ≤ l.at;
  behind : l.place < l.at → l.marks.begin < l.at;
  from : l.place ≤ l.at;
  within : l.at ≤ l.len;
  none : (k : ℕ) (attached : Attached) → l.place ≤ k → k < l.at → slice_get (expanded l.attachments) k ≡ Some attached →
      attached.mark ≡ None;
}

abbrev pub decreases-loop-at : goal.decreases-loop-at
decreases-loop-at l = l.len - l.at
