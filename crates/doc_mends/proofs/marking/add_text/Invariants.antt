use Rattle.std.proofs.Common.{◌≡◌, ◌++◌, ◌≤◌}
use Rattle.std.specs.List.{filter_map}
use Rattle.run_lists.specs.Places.{IsAtRunBegin}
use Rattle.doc_parts.specs.Tabulated.{tabulate}
use Rattle.doc_mends.specs.NormalMarks.{wrong_mark_at}
use Rattle.doc_mends.proofs.marking.add_text.Given as goal

-- the items so far, and the cursor is not behind the place
abbrev pub invariant-loop-at : goal.invariant-loop-at
invariant-loop-at l = record {
  list :
      l.list.items ≡ l.fn.list.items ++ filter_map (λ mark. mark) (tabulate (wrong_mark_at l.sheet l.story l.text) l.at);
  cursor_at : IsAtRunBegin l.attachments l.cursor;
  ahead : l.cursor.begin ≤ l.at;
}
