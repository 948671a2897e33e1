-- Items that are seen as their units, or one item.
use Rattle.std.proofs.Common.{◌+◌, ◌<◌, sym, arith}
use Rattle.doc_columns.specs.Walks.{items_in}
use Rattle.doc_view.proofs.CourseLemmas.{passes_to}
use Rattle.doc_view.proofs.UnitLemmas.{course_behind, range_characters, units_at, units_pass}
use Rattle.doc_view.proofs.text.Course.push_some.Goals as goal

pub returns-then-count-eq0-clause-passes : goal.returns-then-count-eq0-clause-passes
returns-then-count-eq0-clause-passes g c = λ formats istd has.
    let items = items_in c.args.text.now.parts in
    let from = c.args.self.now.place in
    let item = c.push_item in
    passes_to g.K.Sink
    (record {
      out = c.args.out.now;
      page = c.args.page.now;
      saying = c.args.saying.now;
      references = c.args.self.now.references.list;
    })
    (record {
      out = item.new.out;
      page = item.new.page;
      saying = item.new.saying;
      references = item.new.self.references.list;
    })
    formats c.args.text.now.manner istd items from (from + 1) item.new.self.place (sym item.ensures.place)
    (item.ensures.passes formats istd has)

pub show_units-requires : goal.show_units-requires
show_units-requires g c =
    let units = c.args.text.now.parts.units.now in
    let from = c.args.self.now.place in
    let len = c.units_len-count in
    let inside = len.ensures.within in
    let within = c.requires.within in
    range_characters units from (from + len.result) (omega (arith, inside, within)) len.ensures.units

pub returns-clause-course : goal.returns-clause-course
returns-clause-course g c =
    let parts = c.args.text.now.parts in
    let course = c.args.self.now in
    let len = c.units_len-count in
    let count = len.result in
    let some : 0 < count = omega (arith, c.if-count-eq0.false) in
    let inside = len.ensures.within in
    let within = c.requires.within in
    let attached = c.args.stretch.now.attached.now in
    course_behind c.args.text.now.manner (items_in parts) parts.units.now course c.args.stretch.now.format attached
    count
    some c.requires.course (len.ensures.shows some)
    (units_at parts c.requires.parts attached course.place (course.place + count) (omega (arith, inside, within))
    (λ k item low below here. c.requires.attached k item low (omega (arith, below, inside)) here) len.ensures.units)

pub returns-clause-passes : goal.returns-clause-passes
returns-clause-passes g c = λ formats istd has.
    let parts = c.args.text.now.parts in
    let course = c.args.self.now in
    let len = c.units_len-count in
    let count = len.result in
    let some : 0 < count = omega (arith, c.if-count-eq0.false) in
    let inside = len.ensures.within in
    let within = c.requires.within in
    let attached = c.args.stretch.now.attached.now in
    let show = c.show_units in
    units_pass g.K.Sink c.args.out.now show.new.out c.args.page.now show.new.page c.args.saying.now show.new.self formats
    c.args.text.now.manner istd (items_in parts) parts.units.now c.args.stretch.now.format attached course count some
    c.requires.course (len.ensures.shows some)
    (units_at parts c.requires.parts attached course.place (course.place + count) (omega (arith, inside, within))
    (λ k item low below here. c.requires.attached k item low (omega (arith, below, inside)) here) len.ensures.units)
    (λ k item low below here. has k item low (omega (arith, below, inside)) here) c.requires.saying
    (len.ensures.whole some) show.ensures.after show.ensures.said
