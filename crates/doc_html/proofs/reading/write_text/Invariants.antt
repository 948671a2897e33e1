use Rattle.std.proofs.Common.{◌≡◌, ◌≤◌, ◌-◌, length, drop, Bool, Some}
use Rattle.run_lists.specs.Places.{IsAtRunBegin}
use Rattle.doc_columns.specs.Walks.{items_in, IsColumnWalk}
use Rattle.doc_view.specs.declared.reading.Manner.{Manner}
use Rattle.doc_view.specs.Page.{AreFormats}
use Rattle.doc_view.specs.Seen.{Formats, paragraphs_of, with_values}
use Rattle.doc_places.specs.Grid.{is_head_row}
use Rattle.doc_places.specs.Places.{hypertext_of, lead}
use Rattle.doc_html.specs.Writes.{IsReading, paragraphs_left}
use Rattle.doc_html.proofs.TextLemmas.{TextAt}
use Rattle.doc_html.proofs.reading.write_text.Given as goal

-- the paragraphs so far were written
abbrev pub invariant-loop-reading : goal.invariant-loop-reading
invariant-loop-reading g l = record {
  within : l.reading.course.place ≤ length l.text.parts.units.now;
  walk : IsColumnWalk l.text.parts l.reading.course.walk l.reading.course.place;
  marks : IsAtRunBegin l.text.parts.attachments.now l.marks;
  ahead : l.marks.begin ≤ l.reading.course.place;
  reading : IsReading l.text.manner (items_in l.text.parts) l.reading;
  path : l.writer.path ≡ l.fn.writer.path;
  number : l.grid.number ≤ l.reading.course.place;
  cell : l.grid.cell ≤ l.grid.number;
  ended : l.grid.ended ≤ l.grid.number;
  next : l.next ≡ lead l.context.bookmarks.now l.reading.course.place;
  known : (formats : Formats) (manner : Manner) (head : Bool) → l.known ≡ Some head → head ≡ is_head_row
      (paragraphs_left formats manner (items_in l.text.parts) l.reading.course.place);
  text : (formats : Formats) → AreFormats l.text.formats.now formats → TextAt g.K.Sink l.fn.out l.fn.writer.page l.out
      l.writer.page (hypertext_of l.context.bookmarks.now l.context.note (items_in l.text.parts) l.context.cells.now)
      l.fn.writer.path
      (with_values l.context.values.now (paragraphs_of formats l.text.manner (items_in l.text.parts)))
      (with_values (drop l.grid.number l.context.values.now)
      (paragraphs_left formats l.text.manner (items_in l.text.parts) l.reading.course.place))
      l.grid l.lists l.reading.count l.reading.course.place l.fn.references.list l.reading.course.references.list;
}

abbrev pub decreases-loop-reading : goal.decreases-loop-reading
decreases-loop-reading g l = length l.text.parts.units.now - l.reading.course.place
