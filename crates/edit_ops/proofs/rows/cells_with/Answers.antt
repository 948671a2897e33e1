use Rattle.std.proofs.Common.{◌≡◌, ◌∙◌, ◌+◌, sym, ap, length, Some, ◌++◌, arith, length-append}
use Rattle.std.specs.Prelude.{slice_get}
use Rattle.std.specs.List.{flat_map}
use Rattle.std.proofs.lemmas.List.{take_all}
use Rattle.edit_ops.specs.Fresh.{cell_items}
use Rattle.edit_ops.proofs.CellLemmas.{units_more, units_within}
use Rattle.edit_ops.proofs.RowLemmas.{cells_more, length-cell}
use Rattle.edit_ops.proofs.rows.cells_with.Goals as goal

pub add_cell-requires-clause-few : goal.add_cell-requires-clause-few
add_cell-requires-clause-few c =
    let text = c.as_slice.result.now in
    let cells = c.args.cells.now in
    let there : slice_get cells c.loop-i.i ≡ Some text = c.get.ensures ∙ ap Some (sym c.as_slice.ensures) in
    let more = units_more cells c.loop-i.i text there in
    let within = units_within cells (c.loop-i.i + 1) in
    let units = c.requires.units in
    let few = c.requires.few in
    let len = c.loop-i.invariant.few in
    let test = c.loop-i-test.true in
    let count = c.len-i-end.ensures in
    omega arith

pub loop-i-preserved : goal.loop-i-preserved
loop-i-preserved c =
    let text = c.as_slice.result.now in
    let cells = c.args.cells.now in
    let there : slice_get cells c.loop-i.i ≡ Some text = c.get.ensures ∙ ap Some (sym c.as_slice.ensures) in
    let more = units_more cells c.loop-i.i text there in
    let len = c.loop-i.invariant.few in
    let new = ap length c.in_ok-items.ensures in
    let both = length-append c.loop-i.items (cell_items text) in
    let one = length-cell text in
    record {
      items =
          c.in_ok-items.ensures
          ∙ (ap (λ items. items ++ cell_items text) c.loop-i.invariant.items
          ∙ sym (cells_more cells c.loop-i.i text there));
      few = omega arith;
    }

pub returns-clause-items : goal.returns-clause-items
returns-clause-items c =
    c.loop-i.invariant.items ∙ ap (flat_map cell_items) (take_all c.loop-i.i c.args.cells.now
    (omega (arith, c.loop-i-test.false, c.len-i-end.ensures)))

pub returns-clause-room : goal.returns-clause-room
returns-clause-room c =
    let within = units_within c.args.cells.now c.loop-i.i in
    let few = c.loop-i.invariant.few in
    let upto = c.loop-i.auto.i-end in
    let count = c.len-i-end.ensures in
    let units = c.requires.units in
    let cells = c.requires.few in
    omega arith
