use Rattle.std.proofs.Common.{◌≡◌, ◌∙◌, ◌+◌, refl, sym, ap, Some, arith}
use Rattle.std.specs.Prelude.{slice_get}
use Rattle.edit_ops.proofs.CellLemmas.{text_there, texts_more, units_more, units_within}
use Rattle.edit_ops.proofs.codes.are_insertable_cells.Goals as goal

pub returns-then-text-units : goal.returns-then-text-units
returns-then-text-units c = (
  λ t. absurd (cc),
  λ right.
      let text = c.as_slice-text.result.now in
      let cells = c.args.cells.now in
      let there : slice_get cells c.loop-i.i ≡ Some text = c.get.ensures ∙ ap Some (sym c.as_slice-text.ensures) in
      let more = units_more cells c.loop-i.i text there in
      let within = units_within cells (c.loop-i.i + 1) in
      let most = right.1 in
      let sum = c.loop-i.invariant.units in
      let past = c.if-text-units.true in
      absurd (omega arith),
)

pub returns-then-not-are_insertable_units : goal.returns-then-not-are_insertable_units
returns-then-not-are_insertable_units c = (
  λ t. absurd (cc),
  λ right.
      let text = c.as_slice-text.result.now in
      let there : slice_get c.args.cells.now c.loop-i.i ≡ Some text = c.get.ensures ∙ ap Some
      (sym c.as_slice-text.ensures) in
      c.if-not-are_insertable_units.ensures.1 (text_there c.args.cells.now c.loop-i.i text there right.0),
)

pub loop-i-preserved : goal.loop-i-preserved
loop-i-preserved c =
    let text = c.as_slice-text.result.now in
    let cells = c.args.cells.now in
    let there : slice_get cells c.loop-i.i ≡ Some text = c.get.ensures ∙ ap Some (sym c.as_slice-text.ensures) in
    let more = units_more cells c.loop-i.i text there in
    let sum = c.loop-i.invariant.units in
    let few = c.loop-i.invariant.few in
    let room = c.if-text-units.false in
    record {
      each = texts_more cells c.loop-i.i text there c.loop-i.invariant.each (c.if-not-are_insertable_units.ensures.0
          refl);
      units = omega arith;
      few = omega arith;
    }
