use Rattle.std.proofs.Common.{◌≡◌, ◌+◌, ◌*◌}
use Rattle.doc_bits.specs.Number.{u16_at}
use Rattle.list_numbers.proofs.reading.read_units.Given as goal
use Rattle.doc_parts.specs.Tabulated.{tabulate}

abbrev pub invariant-loop-i : goal.invariant-loop-i
invariant-loop-i l = l.units ≡ tabulate (λ i. u16_at l.bytes (l.at + 2 + 2 * i)) l.i
