use Rattle.std.proofs.Common.{◌≡◌, map, take}
use Rattle.doc_mends.specs.declared.mends.Mend.TheVariants.{CutReference}
use Rattle.doc_mends.proofs.cutting.cut_mends.Given as goal

-- the mends so far
abbrev pub invariant-loop-k : goal.invariant-loop-k
invariant-loop-k l = l.mends.items ≡ map CutReference (take l.k l.found)
