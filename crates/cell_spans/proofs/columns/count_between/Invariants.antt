use Rattle.std.proofs.Common.{◌≡◌, take}
use Rattle.std.specs.List.{count_by}
use Rattle.cell_spans.specs.Spans.{is_edge_within}
use Rattle.cell_spans.proofs.columns.count_between.Given as goal

-- the edges so far are counted
abbrev pub invariant-loop-one : goal.invariant-loop-one
invariant-loop-one l = l.count ≡ count_by (is_edge_within l.cell) (take l.one-index l.edges)
