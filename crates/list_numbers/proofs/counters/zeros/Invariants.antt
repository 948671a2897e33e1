use Rattle.std.proofs.Common.{◌≡◌, replicate}
use Rattle.list_numbers.proofs.counters.zeros.Given as goal

abbrev pub invariant-loop-i : goal.invariant-loop-i
invariant-loop-i l = l.zeros.items ≡ replicate l._i 0
