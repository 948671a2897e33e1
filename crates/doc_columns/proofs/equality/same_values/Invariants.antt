use Rattle.std.proofs.Common.{◌≡◌, ◌-◌, ◌<◌, ◌≤◌, ℕ}
use Rattle.std.specs.Prelude.{slice_get}
use Rattle.run_lists.specs.Spread.{expanded}
use Rattle.run_lists.specs.Places.{IsAtRunBegin}
use Rattle.doc_columns.proofs.equality.same_values.Given as goal

-- the values before the place are the same
abbrev pub invariant-loop-place : goal.invariant-loop-place
invariant-loop-place g l = record {
  first : IsAtRunBegin l.one l.first;
  first_ahead : l.first.begin ≤ l.place;
  second : IsAtRunBegin l.other l.second;
  second_ahead : l.second.begin ≤ l.place;
  within : l.place ≤ l.len;
  same : (k : ℕ) → k < l.place → slice_get (expanded l.one) k ≡ slice_get (expanded l.other) k;
}

abbrev pub decreases-loop-place : goal.decreases-loop-place
decreases-loop-place g l = l.len - l.place
