use Rattle.std.proofs.Common.{◌≡◌, drop}
use Rattle.cell_spans.specs.Spans.{edges_of}
use Rattle.cell_spans.proofs.columns.Edges.add_cells.Given as goal

-- those of the cells so far were added
abbrev pub invariant-loop-cell : goal.invariant-loop-cell
invariant-loop-cell l = edges_of l.self (drop l.cell-index l.cells) ≡ edges_of l.fn.self l.cells
