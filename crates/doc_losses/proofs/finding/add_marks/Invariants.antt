use Rattle.std.proofs.Common.{◌≡◌, ◌++◌, slice_get}
use Rattle.std.specs.Prelude.{None}
use Rattle.std.specs.Option.{unwrap_or}
use Rattle.std.specs.List.{filter_map}
use Rattle.doc_parts.specs.Tabulated.{tabulate}
use Rattle.doc_losses.specs.References.{reference_at}
use Rattle.doc_losses.proofs.finding.add_marks.Given as goal

-- the references so far
abbrev pub invariant-loop-at : goal.invariant-loop-at
invariant-loop-at l =
    l.list.items ≡ l.fn.list.items ++ filter_map (λ reference. reference) (tabulate
    (λ at. reference_at l.story at (unwrap_or (slice_get l.marks at) None)) l.at)
