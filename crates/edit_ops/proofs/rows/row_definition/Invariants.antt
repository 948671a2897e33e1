use Rattle.std.proofs.Common.{◌≡◌, ◌∷◌, map, ◌*◌}
use Rattle.std.specs.List.{flat_map, range_with_len}
use Rattle.doc_bits.specs.Number.{number_bytes}
use Rattle.edit_ops.proofs.rows.row_definition.Given as goal

-- the edges so far are behind the number of cells
abbrev pub invariant-loop-edge : goal.invariant-loop-edge
invariant-loop-edge l = l.bytes ≡ l.cells ∷ flat_map (number_bytes 2) (map (λ edge. edge * l.width) (range_with_len 0
    l.edge))
