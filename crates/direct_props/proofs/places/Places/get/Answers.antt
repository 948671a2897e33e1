use Rattle.std.proofs.Common.{List, ℕ, ◌<◌, ◌+◌, sym, ap, ◌∙◌, arith}
use Rattle.std.specs.Prelude.{slice_index}
use Rattle.std.proofs.lemmas.Option.{slice_get-get_or}
use Rattle.direct_props.specs.declared.places.PlaceRow.{PlaceRow}
use Rattle.direct_props.specs.Rows.{row_places_of}
use Rattle.direct_props.proofs.RowLemmas.{count_is, index_part, is_in_a_row, left_inside, place_in_row}
use Rattle.direct_props.proofs.places.Places.get.Goals as goal

pub returns : goal.returns
returns c =
    let none : PlaceRow = record { at = 0; step = 0; len = 0 } in
    let p = c.self.inside in
    let spot = c.find_row-spot.result in
    let places = row_places_of p.rows.now in
    let long = count_is p.rows.now p.skipped p.count c.args.self.now c.self.invariant c.self.view_is in
    let below : c.args.number < p.count = omega (arith, long, c.requires) in
    let inside = is_in_a_row p.rows.now (p.skipped + c.args.number) spot.row spot.left c.find_row-spot.ensures
    (omega (arith, below, c.self.invariant.within)) in
    c.place_in.ensures
    ∙ sym (place_in_row p.rows.now spot.row spot.left _ (slice_get-get_or p.rows.now spot.row none inside)
    (left_inside p.rows.now (p.skipped + c.args.number) spot.row spot.left none c.find_row-spot.ensures inside))
    ∙ ap (slice_index places) c.find_row-spot.ensures.here
    ∙ sym (index_part places p.skipped p.count c.args.number below)
    ∙ ap (λ (t : List ℕ). slice_index t c.args.number) c.self.view_is
