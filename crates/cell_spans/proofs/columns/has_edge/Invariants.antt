use Rattle.std.proofs.Common.{◌≡◌, ◌==◌, take, false}
use Rattle.std.specs.List.{list_any}
use Rattle.cell_spans.proofs.columns.has_edge.Given as goal

-- none so far is the edge
abbrev pub invariant-loop-one : goal.invariant-loop-one
invariant-loop-one l = list_any (λ e. e == l.edge) (take l.one-index l.edges) ≡ false
