use Rattle.std.proofs.Common.{◌∙◌, sym, arith, get_or}
use Rattle.std.proofs.lemmas.Option.{slice_get-get_or}
use Rattle.cell_spans.proofs.WalkLemmas.{edges_end, edges_step, no_cell}
use Rattle.cell_spans.proofs.columns.Edges.add_cells.Goals as goal

pub loop-cell-preserved : goal.loop-cell-preserved
loop-cell-preserved c =
    let k = c.loop-cell.cell-index in
    let cells = c.args.cells.now in
    edges_step c.loop-cell.self c.add.new.self c.add-in-loop-cell.new.self cells k (get_or cells k no_cell)
    (slice_get-get_or cells k no_cell (omega arith)) c.in_ok-add.ensures c.in_ok-add-2.ensures
    ∙ c.loop-cell.invariant

pub returns : goal.returns
returns c =
    sym (edges_end c.loop-cell.self c.args.cells.now c.loop-cell.cell-index (omega arith)) ∙ c.loop-cell.invariant
