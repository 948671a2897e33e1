use Rattle.std.proofs.Common.{◌≡◌, ◌++◌, drop, false}
use Rattle.cell_spans.specs.Rows.{row_cells_from}
use Rattle.cell_spans.proofs.rows.cells_of.Given as goal

-- the cells so far are there
abbrev pub invariant-loop-number : goal.invariant-loop-number
invariant-loop-number l =
    l.cells ++ row_cells_from l.definition l.in_head l.number l.joins (drop l.number l.blanks)
    ≡ row_cells_from l.definition l.in_head 0 false l.blanks
