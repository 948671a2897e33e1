use Rattle.std.proofs.Common.{◌≡◌, ◌≤◌, map, take}
use Rattle.run_lists.specs.Places.{IsAtRunBegin}
use Rattle.doc_columns.specs.Attached.{attached_of}
use Rattle.further_notes.specs.Splices.{attached_noted, with_kinds}
use Rattle.further_notes.proofs.main_text.attachments_noted.Given as goal

-- the items so far, and the cursor is not behind the place
abbrev pub invariant-loop-at : goal.invariant-loop-at
invariant-loop-at l = record {
  made : l.made ≡ take l.at (with_kinds attached_noted l.kinds (map attached_of l.text));
  cursor_at : IsAtRunBegin l.attachments l.cursor;
  ahead : l.cursor.begin ≤ l.at;
}
