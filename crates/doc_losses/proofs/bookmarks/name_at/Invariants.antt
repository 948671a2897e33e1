use Rattle.std.proofs.Common.{◌≡◌, ◌+◌, ◌*◌}
use Rattle.doc_bits.specs.Number.{u16_at}
use Rattle.doc_parts.specs.Tabulated.{tabulate}
use Rattle.doc_losses.proofs.bookmarks.name_at.Given as goal

-- the units so far
abbrev pub invariant-loop-i : goal.invariant-loop-i
invariant-loop-i l = l.name ≡ tabulate (λ i. u16_at l.names (l.place + 2 + 2 * i)) l.i
