use Rattle.std.proofs.Common.{◌≡◌, ◌∙◌, sym, arith, Some}
use Rattle.std.specs.Prelude.{slice_get}
use Rattle.std.proofs.lemmas.Option.{slice_get-get_or}
use Rattle.cell_spans.proofs.WalkLemmas.{rows_end, rows_step}
use Rattle.cell_spans.proofs.columns.edges_of.Goals as goal

pub loop-number-preserved : goal.loop-number-preserved
loop-number-preserved c =
    let k = c.loop-number.number in
    let rows = c.args.rows.now in
    let row = c.index-rows-number.result in
    let there : slice_get rows k ≡ Some row =
    slice_get-get_or rows k row (omega arith) ∙ sym (λ i. Some (c.index-rows-number.is i)) in
    rows_step c.loop-number.edges c.add_cells.new.self rows k row c.as_slice.result.now there c.as_slice.ensures
    c.in_ok-add_cells.ensures ∙ c.loop-number.invariant

pub returns : goal.returns
returns c =
    sym (rows_end c.loop-number.edges c.args.rows.now c.loop-number.number (omega arith)) ∙ c.loop-number.invariant
