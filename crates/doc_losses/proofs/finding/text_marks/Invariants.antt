use Rattle.std.proofs.Common.{◌≡◌, ◌≤◌}
use Rattle.run_lists.specs.Places.{IsAtRunBegin}
use Rattle.doc_parts.specs.Tabulated.{tabulate}
use Rattle.doc_losses.specs.References.{marked_story_at}
use Rattle.doc_losses.specs.Marks.{names_of_marks}
use Rattle.doc_losses.proofs.finding.text_marks.Given as goal

-- the items so far, and the cursor is not behind the place
abbrev pub invariant-loop-at : goal.invariant-loop-at
invariant-loop-at l = record {
  list : l.list.items ≡ tabulate (marked_story_at (names_of_marks l.marks) l.story l.begin l.text) l.at;
  cursor_at : IsAtRunBegin l.attachments l.cursor;
  ahead : l.cursor.begin ≤ l.at;
}
