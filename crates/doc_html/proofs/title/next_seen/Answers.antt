-- The item of the place.
use Rattle.std.proofs.Common.{◌≡◌, ◌∙◌, ◌+◌, ◌∷◌, [], ℕ, refl, sym, ap, subst, arith}
use Rattle.std.specs.Prelude.{slice_index}
use Rattle.char_formats.proofs.Public.{format_one}
use Rattle.doc_columns.specs.Walks.{items_in, IsColumnWalk}
use Rattle.doc_columns.specs.declared.walk.Walk.{Walk}
use Rattle.doc_columns.proofs.Public.{later_walk}
use Rattle.doc_view.specs.declared.reading.Seen.{Seen}
use Rattle.doc_view.specs.declared.text.Course.{Course}
use Rattle.doc_view.specs.Course.{IsCourse}
use Rattle.doc_view.specs.Seen.{seen_as}
use Rattle.doc_view.proofs.Public.{course_walk, item_course, item_room, item_there, few_numbered, seen_is, seen_one}
use Rattle.doc_html.proofs.title.next_seen.Goals as goal

pub pass-requires-clause-room : goal.pass-requires-clause-room
pass-requires-clause-room c =
    let parts = c.args.text.now.parts in
    let manner = c.args.text.now.manner in
    let course = c.args.course.now in
    let alike = c.alike_from-alike in
    let some = alike.ensures.some in
    let within = c.requires.within in
    let unit = slice_index parts.units.now course.place in
    let one = item_there parts c.requires.parts course.place within in
    let same =
    seen_is manner c.format-format.result course.front one.0 unit alike.result.attached.now c.see-seen.result one.1.1
    (alike.ensures.attachments course.place one.0 (omega arith) some one.1.0) c.see-seen.ensures in
    item_room manner (items_in parts) course c.format-format.result one.0 c.see-seen.result c.requires.course one.1.0 same

pub returns-clause-course : goal.returns-clause-course
returns-clause-course c =
    let parts = c.args.text.now.parts in
    let manner = c.args.text.now.manner in
    let course = c.args.course.now in
    let alike = c.alike_from-alike in
    let walked : Course = record course { walk = alike.new.walk } in
    let some = alike.ensures.some in
    let within = c.requires.within in
    let unit = slice_index parts.units.now course.place in
    let one = item_there parts c.requires.parts course.place within in
    let attached_is = alike.ensures.attachments course.place one.0 (omega arith) some one.1.0 in
    let same =
    seen_is manner c.format-format.result course.front one.0 unit alike.result.attached.now c.see-seen.result one.1.1
    attached_is c.see-seen.ensures in
    subst (λ (x : Course). IsCourse manner (items_in parts) x) (sym c.pass.ensures)
    (item_course manner (items_in parts) walked c.format-format.result one.0 unit alike.result.attached.now
    c.see-seen.result (course_walk manner (items_in parts) course alike.new.walk c.requires.course) one.1.0 one.1.1
    attached_is same)

pub returns-clause-walk : goal.returns-clause-walk
returns-clause-walk c =
    let parts = c.args.text.now.parts in
    let alike = c.alike_from-alike in
    let place = c.args.course.now.place in
    subst (λ (x : Course). IsColumnWalk parts x.walk (place + 1)) (sym c.pass.ensures)
    (later_walk parts alike.new.walk place (place + 1) alike.ensures.walk (omega arith))

pub returns-clause-seen : goal.returns-clause-seen
returns-clause-seen c = λ formats are.
    let parts = c.args.text.now.parts in
    let manner = c.args.text.now.manner in
    let course = c.args.course.now in
    let alike = c.alike_from-alike in
    let sheet = c.args.text.now.formats.now in
    let istd = c.args.istd in
    let chp = alike.result.chp.now in
    let some = alike.ensures.some in
    let within = c.requires.within in
    let unit = slice_index parts.units.now course.place in
    let one = item_there parts c.requires.parts course.place within in
    let same =
    seen_is manner c.format-format.result course.front one.0 unit alike.result.attached.now c.see-seen.result one.1.1
    (alike.ensures.attachments course.place one.0 (omega arith) some one.1.0) c.see-seen.ensures in
    let formed : c.format-format.result ≡ formats istd one.0.chp =
    sym (ap (formats istd) (alike.ensures.chps course.place one.0 (omega arith) some one.1.0)
    ∙ format_one sheet istd chp (formats istd chp) c.format-format.result (are.right istd chp c.requires.style)
    c.format-format.ensures) in
    ap (λ (s : Seen). s ∷ []) (same ∙ (λ i. seen_as manner (formed i) (c.requires.course.front i) one.0))
    ∙ sym (seen_one formats manner istd (items_in parts) course.place one.0 one.1.0)
