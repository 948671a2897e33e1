use Rattle.std.proofs.Common.{◌≡◌, ◌+◌, ◌*◌}
use Rattle.doc_bits.specs.Number.{u32_at}
use Rattle.list_numbers.proofs.reading.uses_of.Given as goal
use Rattle.doc_parts.specs.Tabulated.{tabulate}

abbrev pub invariant-loop-i : goal.invariant-loop-i
invariant-loop-i l = l.uses.items ≡ tabulate (λ i. u32_at l.lfo (4 + 16 * i)) l.i
