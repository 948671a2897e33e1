-- The row is the first that the place is in.
use Rattle.std.proofs.Common.{get_or, arith, ap, length}
use Rattle.std.proofs.lemmas.Option.{slice_get-get_or}
use Rattle.direct_props.specs.declared.places.PlaceRow.{PlaceRow}
use Rattle.direct_props.proofs.RowLemmas.{places_of-nil, length_more}
use Rattle.direct_props.proofs.places.find_row.Goals as goal

pub loop-row-init : goal.loop-row-init
loop-row-init c = omega (arith, ap length places_of-nil)

pub returns-then-left-len : goal.returns-then-left-len
returns-then-left-len c =
    let none : PlaceRow = record { at = 0; step = 0; len = 0 } in
    record {
      there = omega arith;
      here = c.loop-row.invariant;
      inside = λ h. (
        get_or c.args.rows.now c.loop-row.row none,
        slice_get-get_or c.args.rows.now c.loop-row.row none h,
        c.if-left-len.true,
      );
    }

pub loop-row-preserved : goal.loop-row-preserved
loop-row-preserved c =
    let none : PlaceRow = record { at = 0; step = 0; len = 0 } in
    omega (
      arith,
      length_more c.args.rows.now c.loop-row.row none (omega arith),
      c.loop-row.invariant,
    )
