use Rattle.std.proofs.Common.{◌≡◌, ◌++◌, replicate}
use Rattle.file_mends.proofs.sectors.with_zeros.Given as goal

abbrev pub invariant-loop-turn : goal.invariant-loop-turn
invariant-loop-turn l = l.copy.items ≡ l.file ++ replicate l._turn 0
