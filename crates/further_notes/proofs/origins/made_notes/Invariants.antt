use Rattle.std.proofs.Common.{◌≡◌}
use Rattle.std.specs.List.{filter_map}
use Rattle.doc_parts.specs.Tabulated.{tabulate}
use Rattle.further_notes.specs.Sources.{made_at}
use Rattle.further_notes.proofs.origins.made_notes.Given as goal

-- the notes so far
abbrev pub invariant-loop-note : goal.invariant-loop-note
invariant-loop-note l = l.made.items ≡ filter_map (λ made. made) (tabulate (made_at l.origins) l.note)
