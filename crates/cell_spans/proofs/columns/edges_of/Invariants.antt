use Rattle.std.proofs.Common.{◌≡◌, [], drop}
use Rattle.cell_spans.specs.Spans.{edges_of_rows}
use Rattle.cell_spans.proofs.columns.edges_of.Given as goal

-- those of the rows so far were added
abbrev pub invariant-loop-number : goal.invariant-loop-number
invariant-loop-number l = edges_of_rows l.edges (drop l.number l.rows) ≡ edges_of_rows [] l.rows
