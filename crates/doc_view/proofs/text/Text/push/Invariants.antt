use Rattle.std.proofs.Common.{◌≤◌, ◌-◌, length, take, drop}
use Rattle.run_lists.specs.Places.{IsAtRunBegin}
use Rattle.doc_model.specs.Settings.{is_inside}
use Rattle.doc_model.specs.Stretches.{stretches}
use Rattle.doc_columns.specs.Walks.{items_in, IsColumnWalk}
use Rattle.doc_view.specs.Course.{IsCourse}
use Rattle.doc_view.specs.Lines.{lead_text}
use Rattle.doc_view.specs.Page.{AreFormats}
use Rattle.doc_view.specs.Seen.{Formats, paragraphs_from, paragraphs_of, with_values}
use Rattle.doc_view.proofs.TextLemmas.{TextAt}
use Rattle.doc_view.proofs.text.Text.push.Given as goal

-- the paragraphs so far were put
abbrev pub invariant-loop-course : goal.invariant-loop-course
invariant-loop-course g l = record {
  within : l.course.place ≤ length l.self.parts.units.now;
  number : l.number ≤ l.course.place;
  walk : IsColumnWalk l.self.parts l.course.walk l.course.place;
  marks : IsAtRunBegin l.self.parts.attachments.now l.marks;
  ahead : l.marks.begin ≤ l.course.place;
  course : IsCourse l.self.manner (items_in l.self.parts) l.course;
  text : (formats : Formats) → AreFormats l.self.formats.now formats → TextAt g.K.Sink l.fn.out l.fn.page l.out l.page
      (lead_text l.lead) (with_values l.values (paragraphs_of formats l.self.manner (items_in l.self.parts)))
      (with_values (drop l.number l.values)
      (paragraphs_from formats l.self.manner (take l.course.place (items_in l.self.parts))
      (stretches is_inside (drop l.course.place (items_in l.self.parts)))))
      l.line l.fn.references.list l.course.references.list;
}

abbrev pub decreases-loop-course : goal.decreases-loop-course
decreases-loop-course g l = length l.self.parts.units.now - l.course.place
