use Rattle.std.proofs.Common.{◌≡◌, ◌≤◌, ◌-◌, length}
use Rattle.doc_columns.specs.Walks.{items_in, IsColumnWalk}
use Rattle.doc_view.specs.Course.{IsCourse}
use Rattle.doc_view.specs.Page.{AreFormats}
use Rattle.doc_view.specs.Seen.{Formats}
use Rattle.doc_view.proofs.Public.{seen_range}
use Rattle.doc_html.specs.Head.{longest_title, title_units}
use Rattle.doc_html.proofs.title.paragraph_title.Given as goal

-- the title has the items so far
abbrev pub invariant-loop-course : goal.invariant-loop-course
invariant-loop-course l = record {
  low : l.fn.course.place ≤ l.course.place;
  within : l.course.place ≤ l.bounds.end;
  walk : IsColumnWalk l.fn.text.parts l.course.walk l.course.place;
  course : IsCourse l.fn.text.manner (items_in l.fn.text.parts) l.course;
  few : length l.title ≤ longest_title;
  title : (formats : Formats) → AreFormats l.fn.text.formats.now formats → l.title ≡ title_units
      (seen_range formats l.fn.text.manner l.bounds.istd (items_in l.fn.text.parts) l.fn.course.place l.course.place);
}

abbrev pub decreases-loop-course : goal.decreases-loop-course
decreases-loop-course l = l.bounds.end - l.course.place
