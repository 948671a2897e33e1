use Rattle.std.proofs.Common.{arith, sym, ap, length}
use Rattle.direct_props.specs.declared.places.PlaceRow.{PlaceRow}
use Rattle.direct_props.proofs.RowLemmas.{places_of-nil, length_more, row_within}
use Rattle.direct_props.proofs.places.count_of.Goals as goal

pub loop-row-init : goal.loop-row-init
loop-row-init c = sym (ap length places_of-nil)

pub overflow_add-count : goal.overflow_add-count
overflow_add-count c =
    let none : PlaceRow = record { at = 0; step = 0; len = 0 } in
    omega (arith, row_within c.args.rows.now c.loop-row.row-index none (omega arith), c.loop-row.invariant, c.requires)

pub loop-row-preserved : goal.loop-row-preserved
loop-row-preserved c =
    let none : PlaceRow = record { at = 0; step = 0; len = 0 } in
    omega (
      arith,
      length_more c.args.rows.now c.loop-row.row-index none (omega arith),
      c.loop-row.invariant,
    )
