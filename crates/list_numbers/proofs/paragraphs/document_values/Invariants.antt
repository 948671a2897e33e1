use Rattle.std.proofs.Common.{◌-◌, ◌≤◌}
use Rattle.run_lists.specs.Places.{IsAtRunBegin}
use Rattle.list_numbers.specs.MarkValues.{AreKnownValues}
use Rattle.list_numbers.proofs.DocumentValueLemmas.{HaveValues}
use Rattle.list_numbers.proofs.paragraphs.document_values.Given as goal

abbrev pub invariant-loop-at : goal.invariant-loop-at
invariant-loop-at l = record {
  values : HaveValues l.document l.values.items l.at;
  known : AreKnownValues l.sheet l.known.items;
  cursor : IsAtRunBegin l.attachments l.marks;
  ahead : l.marks.begin ≤ l.at;
}

abbrev pub decreases-loop-at : goal.decreases-loop-at
decreases-loop-at l = l.len - l.at
