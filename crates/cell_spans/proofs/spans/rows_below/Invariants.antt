use Rattle.std.proofs.Common.{◌≡◌, ◌+◌, ◌-◌, drop}
use Rattle.cell_spans.specs.Spans.{rows_below}
use Rattle.cell_spans.proofs.spans.rows_below.Given as goal

-- the cell goes on in the rows so far
abbrev pub invariant-loop-number : goal.invariant-loop-number
invariant-loop-number l =
    rows_below l.cell (drop l.next l.rows) ≡ (l.number - l.next) + rows_below l.cell (drop l.number l.rows)
