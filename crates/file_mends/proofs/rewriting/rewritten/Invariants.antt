use Rattle.std.proofs.Common.{◌≡◌, ◌+◌, drop}
use Rattle.file_mends.specs.Rewritten.{rewritten}
use Rattle.file_mends.proofs.rewriting.rewritten.Given as goal

-- what is left to put makes of the copy what is to be made
abbrev pub invariant-loop-k : goal.invariant-loop-k
invariant-loop-k l =
    rewritten l.sectors (l.from + l.k) (drop l.k l.bytes) l.copy.items ≡ rewritten l.sectors l.from l.bytes l.file
