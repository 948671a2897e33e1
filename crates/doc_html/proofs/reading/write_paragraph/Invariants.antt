use Rattle.std.proofs.Common.{◌≡◌, ℕ, ◌-◌, ◌≤◌}
use Rattle.doc_columns.specs.Walks.{items_in, IsColumnWalk}
use Rattle.doc_view.specs.Course.{HasFormat}
use Rattle.doc_view.specs.Page.{AreFormats}
use Rattle.doc_view.specs.Seen.{Formats}
use Rattle.doc_view.proofs.Public.{seen_range}
use Rattle.doc_html.specs.Writes.{WrittenAt, IsReading, WritesItems, at, links_in}
use Rattle.doc_html.proofs.reading.write_paragraph.Given as goal

-- the items so far were written
abbrev pub invariant-loop-reading : goal.invariant-loop-reading
invariant-loop-reading g l = record {
  low : l.fn.reading.course.place ≤ l.reading.course.place;
  within : l.reading.course.place ≤ l.bounds.end;
  walk : IsColumnWalk l.fn.text.parts l.reading.course.walk l.reading.course.place;
  reading : IsReading l.fn.text.manner (items_in l.fn.text.parts) l.reading;
  path : l.writer.path ≡ l.fn.writer.path;
  origin : l.reading.origin ≡ l.fn.reading.origin;
  writes : (formats : Formats) → AreFormats l.fn.text.formats.now formats → WritesItems g.K.Sink
      (at l.fn.out l.fn.writer l.fn.reading) (at l.out l.writer l.reading)
      (links_in l.fn.reading.origin (items_in l.fn.text.parts)) l.fn.writer.path l.label
      (seen_range formats l.fn.text.manner l.bounds.istd (items_in l.fn.text.parts) l.fn.reading.course.place
      l.reading.course.place);
}

abbrev pub decreases-loop-reading : goal.decreases-loop-reading
decreases-loop-reading g l = l.bounds.end - l.reading.course.place
