-- The places of the first row rise.
use Rattle.std.proofs.Common.{◌+◌, ◌*◌, ◌≤◌, arith, get_or}
use Rattle.direct_props.specs.declared.places.PlaceRow.{PlaceRow}
use Rattle.direct_props.proofs.RowLemmas.{first_place, first_places, count_is, row_rises, row_stays, row_up_to}
use Rattle.direct_props.proofs.places.Places.count_up_to.Goals as goal

pub returns-then-row-eq0-clause-above : goal.returns-then-row-eq0-clause-above
returns-then-row-eq0-clause-above c = λ k below.
    let none : PlaceRow = record { at = 0; step = 0; len = 0 } in
    let p = c.self.inside in
    let row = get_or p.rows.now 0 none in
    let first = first_place p.rows.now p.skipped p.count none c.args.self.now c.self.invariant c.self.view_is
    (omega arith) in
    let here = first_places p.rows.now p.skipped p.count k none c.args.self.now c.self.invariant c.self.view_is
    (omega arith) (omega arith) in
    omega (arith, first, here, row_rises row.at row.step p.skipped k)

pub returns-then-row-eq0-clause-below : goal.returns-then-row-eq0-clause-below
returns-then-row-eq0-clause-below c = λ k below.
    let none : PlaceRow = record { at = 0; step = 0; len = 0 } in
    let p = c.self.inside in
    let row = get_or p.rows.now 0 none in
    let first = first_place p.rows.now p.skipped p.count none c.args.self.now c.self.invariant c.self.view_is
    (omega arith) in
    let here = first_places p.rows.now p.skipped p.count k none c.args.self.now c.self.invariant c.self.view_is
    (omega arith) (omega arith) in
    omega (arith, first, here, c.requires.first, row_stays row.at row.step p.skipped k c.if-row-eq0.true)

pub overflow_sub-above : goal.overflow_sub-above
overflow_sub-above c =
    let none : PlaceRow = record { at = 0; step = 0; len = 0 } in
    let p = c.self.inside in
    let long = count_is p.rows.now p.skipped p.count c.args.self.now c.self.invariant c.self.view_is in
    let first = first_place p.rows.now p.skipped p.count none c.args.self.now c.self.invariant c.self.view_is
    (omega (arith, long, c.requires.there)) in
    omega (arith, first, c.place_in.ensures, c.requires.first)

pub returns-clause-above : goal.returns-clause-above
returns-clause-above c = λ k below.
    let none : PlaceRow = record { at = 0; step = 0; len = 0 } in
    let p = c.self.inside in
    let row = get_or p.rows.now 0 none in
    let first = first_place p.rows.now p.skipped p.count none c.args.self.now c.self.invariant c.self.view_is
    (omega arith) in
    let here = first_places p.rows.now p.skipped p.count k none c.args.self.now c.self.invariant c.self.view_is
    (omega arith) (omega arith) in
    omega (arith, first, here, row_rises row.at row.step p.skipped k)

pub returns-clause-below : goal.returns-clause-below
returns-clause-below c = λ k below.
    let none : PlaceRow = record { at = 0; step = 0; len = 0 } in
    let p = c.self.inside in
    let row = get_or p.rows.now 0 none in
    let first = first_place p.rows.now p.skipped p.count none c.args.self.now c.self.invariant c.self.view_is
    (omega arith) in
    let here = first_places p.rows.now p.skipped p.count k none c.args.self.now c.self.invariant c.self.view_is
    (omega arith) (omega arith) in
    let low : row.at + p.skipped * row.step ≤ c.args.last = omega (arith, first, c.requires.first) in
    omega (arith, here, row_up_to row.at row.step p.skipped k c.args.last low (rw (← c.place_in.ensures) (omega arith)))
