use Rattle.std.proofs.Common.{◌≡◌, ◌++◌}
use Rattle.std.specs.List.{filter_map}
use Rattle.doc_parts.specs.Tabulated.{tabulate}
use Rattle.deleted_text.specs.Ranges.{range_at}
use Rattle.deleted_text.proofs.ranges.add_text.Given as goal

-- the ranges so far
abbrev pub invariant-loop-at : goal.invariant-loop-at
invariant-loop-at l =
    l.ranges.items ≡ l.fn.ranges.items ++ filter_map (λ range. range) (tabulate (range_at l.story l.flags) l.at)
