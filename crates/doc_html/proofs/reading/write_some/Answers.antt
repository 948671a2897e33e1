-- Items that are seen as their units, or one item.
use Rattle.std.proofs.Common.{◌≡◌, ◌∙◌, ◌+◌, ◌<◌, ◌≤◌, ◌++◌, ℕ, true, List, sym, ap, subst, arith, length}
use Rattle.std.specs.Prelude.{slice_range}
use Rattle.doc_columns.specs.Walks.{items_in}
use Rattle.view_places.specs.declared.element.Element.{Element}
use Rattle.glyph_units.specs.Glyphs.{unit_places}
use Rattle.doc_view.specs.Course.{HasAttached}
use Rattle.doc_view.proofs.Public.{AreUnits, course_behind, range_characters, units_at}
use Rattle.doc_places.specs.Places.{format_elements, label_places, link_elements}
use Rattle.form_page.specs.Forms.{PutsPlaces}
use Rattle.doc_html.specs.Writes.{at, links_in}
use Rattle.doc_html.proofs.RunLemmas.{referred_along, run_few, run_written}
use Rattle.doc_html.proofs.WriteLemmas.{writes_to}
use Rattle.doc_html.proofs.reading.write_some.Goals as goal

pub returns-then-count-eq0-clause-writes : goal.returns-then-count-eq0-clause-writes
returns-then-count-eq0-clause-writes g c = λ formats istd has.
    let reading = c.args.reading.now in
    let items = items_in c.args.text.now.parts in
    let from = reading.course.place in
    let item = c.write_item in
    writes_to g.K.Sink (at c.args.out.now c.args.writer.now reading) (at item.new.out item.new.writer item.new.reading)
    (links_in reading.origin items) c.args.writer.now.path c.args.label.now formats c.args.text.now.manner istd items from
    (from + 1) item.new.reading.course.place (sym item.ensures.place) (item.ensures.writes formats istd has)

pub write_run-requires-clause-room : goal.write_run-requires-clause-room
write_run-requires-clause-room g c =
    subst (λ (path : List Element). length path + 8 ≤ 24) (sym c.begin.ensures.path) c.requires.depth

pub write_run-requires-clause-characters : goal.write_run-requires-clause-characters
write_run-requires-clause-characters g c =
    let units = c.args.text.now.parts.units.now in
    let from = c.args.reading.now.course.place in
    let len = c.run_len-count in
    let inside = len.ensures.within in
    let within = c.requires.within in
    range_characters units from (from + len.result) (omega (arith, inside, within)) len.ensures.units

pub returns-clause-path : goal.returns-clause-path
returns-clause-path g c = c.write_run.ensures.path ∙ c.begin.ensures.path

pub returns-clause-reading : goal.returns-clause-reading
returns-clause-reading g c =
    let parts = c.args.text.now.parts in
    let items = items_in parts in
    let manner = c.args.text.now.manner in
    let reading = c.args.reading.now in
    let course = reading.course in
    let len = c.run_len-count in
    let count = len.result in
    let some : 0 < count = omega (arith, c.if-count-eq0.false) in
    let inside = len.ensures.within in
    let within = c.requires.within in
    let attached = c.args.stretch.now.attached.now in
    let format = c.args.stretch.now.format in
    let are : AreUnits items parts.units.now attached course.place (course.place + count) =
    units_at parts c.requires.parts attached course.place (course.place + count) (omega (arith, inside, within))
    (λ k item low below here. c.requires.attached k item low (omega (arith, below, inside)) here) len.ensures.units in
    record {
      course =
          course_behind manner items parts.units.now course format attached count some c.requires.reading.course
          (len.ensures.shows some) are;
      few = run_few reading.count course.place count c.requires.reading.few;
      referred =
          c.requires.reading.referred
          ∙ sym (referred_along items parts.units.now attached course.place count (len.ensures.note some) are);
    }

pub returns-clause-writes : goal.returns-clause-writes
returns-clause-writes g c = λ formats istd has.
    let parts = c.args.text.now.parts in
    let items = items_in parts in
    let manner = c.args.text.now.manner in
    let reading = c.args.reading.now in
    let course = reading.course in
    let len = c.run_len-count in
    let count = len.result in
    let some : 0 < count = omega (arith, c.if-count-eq0.false) in
    let inside = len.ensures.within in
    let within = c.requires.within in
    let attached = c.args.stretch.now.attached.now in
    let format = c.args.stretch.now.format in
    let block = c.args.writer.now.path in
    let label = c.args.label.now in
    let first = c.begin in
    let run = c.write_run in
    let link = c.link-link.result in
    let are : AreUnits items parts.units.now attached course.place (course.place + count) =
    units_at parts c.requires.parts attached course.place (course.place + count) (omega (arith, inside, within))
    (λ k item low below here. c.requires.attached k item low (omega (arith, below, inside)) here) len.ensures.units in
    let put : PutsPlaces g.K.Sink first.new.out first.new.self.page run.new.out run.new.self.page (unit_places (block ++
    (link_elements link ++ format_elements format)) (slice_range parts.units.now course.place (course.place + count))) =
    subst (λ (path : List Element). PutsPlaces g.K.Sink first.new.out first.new.self.page run.new.out run.new.self.page
    (unit_places (path ++ (link_elements link ++ format_elements format)) (slice_range parts.units.now course.place
    (course.place + count)))) first.ensures.path run.ensures.puts in
    run_written g.K.Sink c.args.out.now first.new.out run.new.out c.args.writer.now.page first.new.self.page
    run.new.self.page reading link block label formats manner istd items parts.units.now format attached count some
    c.requires.reading (len.ensures.shows some) (len.ensures.note some) are
    (λ k item low below here. has k item low (omega (arith, below, inside)) here) c.link-link.ensures first.ensures.puts put
