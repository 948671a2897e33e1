use Rattle.std.proofs.Common.{◌≡◌, ◌++◌, ◌≤◌}
use Rattle.std.specs.List.{filter_map}
use Rattle.run_lists.specs.Places.{IsAtRunBegin}
use Rattle.doc_parts.specs.Tabulated.{tabulate}
use Rattle.doc_mends.specs.BrokenRows.{broken_row_at}
use Rattle.doc_mends.specs.OpenRows.{IsOpenBefore}
use Rattle.doc_mends.proofs.rows.add_rows.Given as goal

-- the rows so far, the open one, and the cursor is not behind the place
abbrev pub invariant-loop-at : goal.invariant-loop-at
invariant-loop-at l = record {
  list :
      l.list.items ≡ l.fn.list.items ++ filter_map (λ row. row) (tabulate (broken_row_at l.story l.text) l.at);
  left : IsOpenBefore l.text l.at l.row;
  cursor_at : IsAtRunBegin l.attachments l.cursor;
  ahead : l.cursor.begin ≤ l.at;
}
