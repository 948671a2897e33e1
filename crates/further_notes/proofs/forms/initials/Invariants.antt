use Rattle.std.proofs.Common.{◌≡◌, ◌+◌, ◌*◌}
use Rattle.doc_bits.specs.Number.{u16_at}
use Rattle.doc_parts.specs.Tabulated.{tabulate}
use Rattle.further_notes.proofs.forms.initials.Given as goal

-- the characters so far
abbrev pub invariant-loop-k : goal.invariant-loop-k
invariant-loop-k l = l.units.items ≡ tabulate (λ k. u16_at l.entry (2 + 2 * k)) l.k
