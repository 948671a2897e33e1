use Rattle.std.proofs.Common.{◌≡◌, ◌++◌, [], drop}
use Rattle.cell_spans.specs.Spans.{before_at, spans_from}
use Rattle.cell_spans.proofs.spans.Spans.push_rows.Given as goal

-- the cells of the rows so far were added
abbrev pub invariant-loop-number : goal.invariant-loop-number
invariant-loop-number l =
    l.self ++ spans_from l.edges (before_at l.rows l.number) (drop l.number l.rows)
    ≡ l.fn.self ++ spans_from l.edges [] l.rows
