use Rattle.std.proofs.Common.{sym, ◌∙◌, arith}
use Rattle.direct_props.specs.declared.places.PlaceRow.{PlaceRow}
use Rattle.direct_props.proofs.RowLemmas.{first_place, count_is}
use Rattle.direct_props.proofs.places.Places.first.Goals as goal

pub returns : goal.returns
returns c =
    let none : PlaceRow = record { at = 0; step = 0; len = 0 } in
    let p = c.self.inside in
    let long = count_is p.rows.now p.skipped p.count c.args.self.now c.self.invariant c.self.view_is in
    c.place_in.ensures
    ∙ sym (first_place p.rows.now p.skipped p.count none c.args.self.now c.self.invariant c.self.view_is
    (omega (arith, long, c.requires)))
