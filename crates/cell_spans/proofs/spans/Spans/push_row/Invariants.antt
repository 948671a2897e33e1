use Rattle.std.proofs.Common.{◌≡◌, ◌+◌, ◌++◌, drop, map, take}
use Rattle.cell_spans.specs.Spans.{cell_span}
use Rattle.cell_spans.proofs.spans.Spans.push_row.Given as goal

-- the cells so far were added
abbrev pub invariant-loop-cell : goal.invariant-loop-cell
invariant-loop-cell l =
    l.self ≡ l.fn.self ++ map (cell_span l.edges l.before (drop (l.number + 1) l.rows)) (take l.cell-index l.cells)
