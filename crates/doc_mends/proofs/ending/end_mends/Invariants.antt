use Rattle.std.proofs.Common.{◌≡◌, map, take}
use Rattle.doc_mends.specs.declared.mends.Mend.TheVariants.{EndText}
use Rattle.doc_mends.proofs.ending.end_mends.Given as goal

-- the mends so far
abbrev pub invariant-loop-k : goal.invariant-loop-k
invariant-loop-k l = l.mends.items ≡ map EndText (take l.k l.found)
