-- The item of the place.
use Rattle.std.proofs.Common.{◌+◌, sym, subst, arith}
use Rattle.std.specs.Prelude.{slice_index}
use Rattle.doc_columns.specs.Walks.{items_in}
use Rattle.doc_view.specs.declared.text.Course.{Course}
use Rattle.doc_view.specs.Course.{IsCourse, PutsItems}
use Rattle.doc_view.proofs.CourseLemmas.{item_course, item_room, item_said, item_there, seen_is}
use Rattle.doc_view.proofs.RangeLemmas.{seen_range}
use Rattle.doc_view.proofs.text.Course.push_item.Goals as goal

pub pass-requires-clause-room : goal.pass-requires-clause-room
pass-requires-clause-room g c =
    let parts = c.args.text.now.parts in
    let manner = c.args.text.now.manner in
    let course = c.args.self.now in
    let format = c.args.stretch.now.format in
    let attached = c.args.stretch.now.attached.now in
    let ahead = c.requires.ahead in
    let within = c.requires.within in
    let unit = slice_index parts.units.now course.place in
    let one = item_there parts c.requires.parts course.place (omega (arith, ahead, within)) in
    let same =
    seen_is manner format course.front one.0 unit attached c.see-seen.result one.1.1
    (c.requires.attached course.place one.0 (omega arith) ahead one.1.0) c.see-seen.ensures in
    item_room manner (items_in parts) course format one.0 c.see-seen.result c.requires.course one.1.0 same

pub returns-clause-course : goal.returns-clause-course
returns-clause-course g c =
    let parts = c.args.text.now.parts in
    let manner = c.args.text.now.manner in
    let course = c.args.self.now in
    let format = c.args.stretch.now.format in
    let attached = c.args.stretch.now.attached.now in
    let ahead = c.requires.ahead in
    let within = c.requires.within in
    let unit = slice_index parts.units.now course.place in
    let one = item_there parts c.requires.parts course.place (omega (arith, ahead, within)) in
    let attached_is = c.requires.attached course.place one.0 (omega arith) ahead one.1.0 in
    let same = seen_is manner format course.front one.0 unit attached c.see-seen.result one.1.1 attached_is
    c.see-seen.ensures
    in
    subst (λ (x : Course). IsCourse manner (items_in parts) x) (sym c.pass.ensures)
    (item_course manner (items_in parts) course format one.0 unit attached c.see-seen.result c.requires.course one.1.0
    one.1.1 attached_is same)

pub returns-clause-passes : goal.returns-clause-passes
returns-clause-passes g c = λ formats istd has.
    let parts = c.args.text.now.parts in
    let manner = c.args.text.now.manner in
    let course = c.args.self.now in
    let format = c.args.stretch.now.format in
    let attached = c.args.stretch.now.attached.now in
    let ahead = c.requires.ahead in
    let within = c.requires.within in
    let unit = slice_index parts.units.now course.place in
    let one = item_there parts c.requires.parts course.place (omega (arith, ahead, within)) in
    let same =
    seen_is manner format course.front one.0 unit attached c.see-seen.result one.1.1
    (c.requires.attached course.place one.0 (omega arith) ahead one.1.0) c.see-seen.ensures in
    let said = c.say.ensures in
    subst (λ (x : Course). PutsItems g.K.Sink
    (record {
      out = c.args.out.now;
      page = c.args.page.now;
      saying = c.args.saying.now;
      references =
          course.references.list;
    })
    (record { out = c.say.new.out; page = c.say.new.page; saying = c.say.new.self; references = x.references.list })
    (seen_range formats manner istd (items_in parts) course.place (course.place + 1))) (sym c.pass.ensures)
    (item_said g.K.Sink c.args.out.now c.say.new.out c.args.page.now c.say.new.page c.args.saying.now c.say.new.self
    manner (items_in parts) course format one.0 c.see-seen.result said.0 formats istd c.requires.course one.1.0 same
    (has course.place one.0 (omega arith) ahead one.1.0) said.1.0 said.1.1)
