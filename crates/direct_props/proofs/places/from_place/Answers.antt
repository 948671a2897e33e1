use Rattle.std.proofs.Common.{List, sym, ap, subst, ◌+◌, ◌∙◌}
use Rattle.std.specs.Prelude.{slice_range}
use Rattle.std.proofs.lemmas.List.{take_rest}
use Rattle.direct_props.specs.declared.places.PlaceRow.{PlaceRow}
use Rattle.direct_props.specs.Rows.{IsCursor, row_places_of}
use Rattle.direct_props.proofs.RowLemmas.{cursor_at, places_at}
use Rattle.direct_props.proofs.places.from_place.Goals as goal

pub invariant_of-result : goal.invariant_of-result
invariant_of-result c =
    let rows = c.args.rows.now in
    let spot = c.find_row-spot.result in
    subst (λ (t : List PlaceRow). IsCursor t spot.left c.args.count) (sym (take_rest rows spot.row))
    (cursor_at rows c.args.skipped c.args.count spot.row spot.left c.requires.rows c.requires.few c.requires.within
    c.find_row-spot.ensures)

pub returns : goal.returns
returns c =
    let rows = c.args.rows.now in
    let spot = c.find_row-spot.result in
    ap (λ (t : List PlaceRow). slice_range (row_places_of t) spot.left (spot.left + c.args.count)) (take_rest rows
    spot.row)
    ∙ places_at rows c.args.skipped c.args.count spot.row spot.left c.find_row-spot.ensures
