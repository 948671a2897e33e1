use Rattle.std.proofs.Common.{◌≡◌, ◌++◌, ◌≤◌}
use Rattle.std.specs.List.{filter_map}
use Rattle.run_lists.specs.Places.{IsAtRunBegin}
use Rattle.doc_parts.specs.Tabulated.{tabulate}
use Rattle.huge_papx.specs.Rows.{defined_row_at}
use Rattle.huge_papx.proofs.rows.add_text.Given as goal

-- the rows so far, and the cursor is not behind the place
abbrev pub invariant-loop-at : goal.invariant-loop-at
invariant-loop-at l = record {
  rows :
      l.rows.items ≡ l.fn.rows.items ++ filter_map (λ row. row) (tabulate (defined_row_at l.story l.definitions l.text)
      l.at);
  cursor_at : IsAtRunBegin l.attachments l.cursor;
  ahead : l.cursor.begin ≤ l.at;
}
