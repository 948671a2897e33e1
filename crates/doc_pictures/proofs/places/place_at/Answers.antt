use Rattle.std.proofs.Common.{◌∙◌, arith, sym, ap}
use Rattle.std.specs.Prelude.{slice_index}
use Rattle.char_formats.specs.Locations.{location_in}
use Rattle.doc_pictures.proofs.PlaceLemmas.{its-place, no-place, unit-there}
use Rattle.doc_pictures.proofs.places.place_at.Goals as goal

pub returns-then-parts-i-ne-PICTURE-clause-place :
    goal.returns-then-parts-i-ne-PICTURE-clause-place
returns-then-parts-i-ne-PICTURE-clause-place c = λ item here.
    let parts = c.args.parts.now in
    no-place item (slice_index parts.units.now c.args.i) (unit-there parts c.requires.parts c.args.i item here)
    c.if-parts-i-ne-PICTURE.true

pub returns-clause-place : goal.returns-clause-place
returns-clause-place c = λ item here.
    let parts = c.args.parts.now in
    let alike = c.alike_from-alike in
    let some = alike.ensures.some in
    c.location_in.ensures
    ∙ (ap location_in (sym (alike.ensures.chps c.args.i item (omega arith) some here))
    ∙ its-place item (slice_index parts.units.now c.args.i) (unit-there parts c.requires.parts c.args.i item here)
    c.if-parts-i-ne-PICTURE.false)
