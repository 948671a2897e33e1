use Rattle.std.proofs.Common.{◌≡◌, ◌≤◌, take}
use Rattle.run_lists.specs.Places.{IsAtRunBegin}
use Rattle.further_notes.specs.Sources.{note_kinds}
use Rattle.further_notes.proofs.main_text.note_kinds.Given as goal

-- the items so far, and the cursor is not behind the place
abbrev pub invariant-loop-at : goal.invariant-loop-at
invariant-loop-at l = record {
  list : l.kinds.items ≡ take l.at (note_kinds l.text);
  cursor_at : IsAtRunBegin l.attachments l.cursor;
  ahead : l.cursor.begin ≤ l.at;
}
