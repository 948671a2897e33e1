use Rattle.std.proofs.Common.{◌≡◌, ◌≤◌, ◌-◌, length}
use Rattle.run_lists.specs.Places.{IsAtRunBegin}
use Rattle.doc_columns.specs.Walks.{items_in, IsColumnWalk}
use Rattle.doc_view.specs.Course.{IsCourse}
use Rattle.doc_view.specs.Page.{AreFormats}
use Rattle.doc_view.specs.Seen.{Formats, paragraphs_of}
use Rattle.doc_html.specs.Head.{title_in}
use Rattle.doc_html.specs.Writes.{paragraphs_left}
use Rattle.doc_html.proofs.title.title_in.Given as goal

-- no paragraph so far has a title
abbrev pub invariant-loop-course : goal.invariant-loop-course
invariant-loop-course l = record {
  within : l.course.place ≤ length l.text.parts.units.now;
  walk : IsColumnWalk l.text.parts l.course.walk l.course.place;
  marks : IsAtRunBegin l.text.parts.attachments.now l.marks;
  ahead : l.marks.begin ≤ l.course.place;
  course : IsCourse l.text.manner (items_in l.text.parts) l.course;
  title : (formats : Formats) → AreFormats l.text.formats.now formats →
      title_in (paragraphs_of formats l.text.manner (items_in l.text.parts))
      ≡ title_in (paragraphs_left formats l.text.manner (items_in l.text.parts) l.course.place);
}

abbrev pub decreases-loop-course : goal.decreases-loop-course
decreases-loop-course l = length l.text.parts.units.now - l.course.place
