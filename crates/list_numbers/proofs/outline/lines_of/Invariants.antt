use Rattle.std.proofs.Common.{◌≤◌}
use Rattle.run_lists.specs.Places.{IsAtRunBegin}
use Rattle.list_numbers.proofs.OutlineLemmas.{HasLines}
use Rattle.list_numbers.proofs.outline.lines_of.Given as goal

abbrev pub invariant-loop-i : goal.invariant-loop-i
invariant-loop-i l = record {
  lines : HasLines (record { items = l.document.main; lists = l.lists; values = l.values; places = l.places }) l.text
      l.counts.items l.at l.i;
  cursor : IsAtRunBegin l.attachments l.marks;
  ahead : l.marks.begin ≤ l.at;
}
