use Rattle.std.proofs.Common.{◌≡◌, ◌++◌, replicate}
use Rattle.doc_bits.proofs.lists.push_zeros.Given as goal

abbrev pub invariant-loop-turn : goal.invariant-loop-turn
invariant-loop-turn l = l.out ≡ l.fn.out ++ replicate l._turn 0
