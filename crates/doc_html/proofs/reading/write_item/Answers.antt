-- The item of the place.
use Rattle.std.proofs.Common.{◌≡◌, ◌∙◌, ◌+◌, ◌||◌, ℕ, Bool, List, sym, ap, subst, arith, take}
use Rattle.std.specs.Prelude.{slice_index, is_some, if◌then◌else◌}
use Rattle.doc_columns.specs.Walks.{items_in}
use Rattle.doc_view.specs.declared.text.Course.{Course}
use Rattle.doc_view.specs.Course.{IsCourse}
use Rattle.doc_view.proofs.Public.{item_course, item_room, item_there, few_numbered, seen_is, seen_range}
use Rattle.view_places.specs.declared.element.Element.{Element}
use Rattle.form_page.specs.Forms.{PutsPlaces}
use Rattle.doc_places.specs.Places.{count_of, item_places, up_to_reference}
use Rattle.doc_html.specs.Writes.{WrittenAt, IsReading, WritesItems, at, links_in}
use Rattle.doc_html.proofs.WriteLemmas.{count_few, item_written, referred_on}
use Rattle.doc_html.proofs.reading.write_item.Goals as goal

pub pass-requires-clause-room : goal.pass-requires-clause-room
pass-requires-clause-room g c =
    let parts = c.args.text.now.parts in
    let manner = c.args.text.now.manner in
    let course = c.args.reading.now.course in
    let format = c.args.stretch.now.format in
    let attached = c.args.stretch.now.attached.now in
    let ahead = c.requires.ahead in
    let within = c.requires.within in
    let unit = slice_index parts.units.now course.place in
    let one = item_there parts c.requires.parts course.place (omega (arith, ahead, within)) in
    let same =
    seen_is manner format course.front one.0 unit attached c.see-seen.result one.1.1
    (c.requires.attached course.place one.0 (omega arith) ahead one.1.0) c.see-seen.ensures in
    item_room manner (items_in parts) course format one.0 c.see-seen.result c.requires.reading.course one.1.0 same

pub returns-clause-reading : goal.returns-clause-reading
returns-clause-reading g c =
    let parts = c.args.text.now.parts in
    let manner = c.args.text.now.manner in
    let course = c.args.reading.now.course in
    let format = c.args.stretch.now.format in
    let attached = c.args.stretch.now.attached.now in
    let ahead = c.requires.ahead in
    let within = c.requires.within in
    let unit = slice_index parts.units.now course.place in
    let one = item_there parts c.requires.parts course.place (omega (arith, ahead, within)) in
    let attached_is = c.requires.attached course.place one.0 (omega arith) ahead one.1.0 in
    let same = seen_is manner format course.front one.0 unit attached c.see-seen.result one.1.1 attached_is
    c.see-seen.ensures
    in
    let place : c.pass.new.self.place ≡ course.place + 1 = ap (λ (x : Course). x.place) c.pass.ensures in
    let few = c.requires.reading.few in
    let counted = c.count_behind-reading.ensures in
    let one_more = count_few c.see-seen.result.reference in
    record {
      course =
          subst (λ (x : Course). IsCourse manner (items_in parts) x) (sym c.pass.ensures)
          (item_course manner (items_in parts) course format one.0 unit attached c.see-seen.result
          c.requires.reading.course
          one.1.0 one.1.1 attached_is same);
      few = omega (arith, place, few, counted, one_more);
      referred =
          c.referred_behind-reading.ensures
          ∙ ap (λ (n : ℕ). if is_some attached.note then n else c.args.reading.now.referred) place
          ∙ referred_on (items_in parts) course.place one.0 attached c.args.reading.now.referred one.1.0 attached_is
          c.requires.reading.referred
          ∙ ap (λ (n : ℕ). up_to_reference (take n (items_in parts))) (sym place);
    }

pub returns-clause-writes : goal.returns-clause-writes
returns-clause-writes g c = λ formats istd has.
    let parts = c.args.text.now.parts in
    let manner = c.args.text.now.manner in
    let writer = c.args.writer.now in
    let reading = c.args.reading.now in
    let course = reading.course in
    let format = c.args.stretch.now.format in
    let attached = c.args.stretch.now.attached.now in
    let ahead = c.requires.ahead in
    let within = c.requires.within in
    let unit = slice_index parts.units.now course.place in
    let one = item_there parts c.requires.parts course.place (omega (arith, ahead, within)) in
    let same =
    seen_is manner format course.front one.0 unit attached c.see-seen.result one.1.1
    (c.requires.attached course.place one.0 (omega arith) ahead one.1.0) c.see-seen.ensures in
    let label = c.args.label.now in
    let link = c.link-link.result in
    let put : PutsPlaces g.K.Sink c.begin.new.out c.begin.new.self.page c.write.new.out c.write.new.self.page
    (item_places writer.path link reading.count c.see-seen.result) =
    subst (λ (path : List Element). PutsPlaces g.K.Sink c.begin.new.out c.begin.new.self.page c.write.new.out
    c.write.new.self.page (item_places path link reading.count c.see-seen.result)) c.begin.ensures.path
    c.write.ensures.puts in
    let written =
    item_written g.K.Sink c.args.out.now c.begin.new.out c.write.new.out writer.page c.begin.new.self.page
    c.write.new.self.page reading.begun reading.count reading.referred reading.origin link writer.path label manner
    (items_in parts) course format one.0 c.see-seen.result formats istd c.requires.reading.course one.1.0 same
    (has course.place one.0 (omega arith) ahead one.1.0) c.requires.reading.referred c.link-link.ensures c.begin.ensures.puts put in
    let links = links_in reading.origin (items_in parts) in
    subst (λ (begun : Bool). WritesItems g.K.Sink (at c.args.out.now writer reading) (record {
      out = c.write.new.out;
      page = c.write.new.self.page;
      begun = begun;
      count = c.count_behind-reading.result;
      place = c.pass.new.self.place;
      references =
          c.pass.new.self.references.list;
    }) links writer.path label (seen_range formats manner istd (items_in parts) course.place (course.place + 1))) (sym
    c.begun_behind-reading.ensures)
    (subst (λ (n : ℕ). WritesItems g.K.Sink (at c.args.out.now writer reading) (record {
      out = c.write.new.out;
      page = c.write.new.self.page;
      begun = reading.begun || c.see-seen.result.is_shown;
      count = n;
      place = c.pass.new.self.place;
      references =
          c.pass.new.self.references.list;
    }) links writer.path label (seen_range formats manner istd (items_in parts) course.place (course.place + 1))) (sym
    c.count_behind-reading.ensures)
    (subst (λ (x : Course). WritesItems g.K.Sink (at c.args.out.now writer reading) (record {
      out = c.write.new.out;
      page = c.write.new.self.page;
      begun = reading.begun || c.see-seen.result.is_shown;
      count = reading.count + count_of c.see-seen.result.reference;
      place = x.place;
      references = x.references.list;
    }) links writer.path label (seen_range formats manner istd (items_in parts) course.place (course.place + 1))) (sym
    c.pass.ensures)
    written))
