use Rattle.std.proofs.Common.{◌≡◌, ◌≤◌, ◌-◌, ◌++◌, length, drop}
use Rattle.run_lists.specs.Places.{IsAtRunBegin}
use Rattle.doc_model.specs.Settings.{is_inside}
use Rattle.doc_model.specs.Stretches.{stretches}
use Rattle.doc_columns.specs.Walks.{items_in}
use Rattle.cell_spans.specs.Tables.{no_tables}
use Rattle.doc_places.specs.Cells.{depths_from, tables_from}
use Rattle.doc_places.specs.Places.{is_mark_alone, lead}
use Rattle.doc_html.proofs.cells.cells_of.Given as goal

-- the paragraphs so far were passed
abbrev pub invariant-loop-place : goal.invariant-loop-place
invariant-loop-place l = record {
  within : l.place ≤ length l.parts.units.now;
  marks : IsAtRunBegin l.parts.attachments.now l.marks;
  ahead : l.marks.begin ≤ l.place;
  number : l.number ≤ l.place;
  next : l.next ≡ lead l.bookmarks l.place;
  tables : tables_from (is_mark_alone l.bookmarks l.values) l.number l.place l.tables
      (stretches is_inside (drop l.place (items_in l.parts)))
      ≡ tables_from (is_mark_alone l.bookmarks l.values) 0 0 no_tables (stretches is_inside (items_in l.parts));
  depths : l.depths ++ depths_from (is_mark_alone l.bookmarks l.values) l.number l.place
      (stretches is_inside (drop l.place (items_in l.parts)))
      ≡ depths_from (is_mark_alone l.bookmarks l.values) 0 0 (stretches is_inside (items_in l.parts));
}

abbrev pub decreases-loop-place : goal.decreases-loop-place
decreases-loop-place l = length l.parts.units.now - l.place
