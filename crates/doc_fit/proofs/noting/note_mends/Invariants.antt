use Rattle.std.proofs.Common.{◌≡◌, map, take}
use Rattle.doc_mends.specs.declared.mends.Mend.TheVariants.{MakeNote}
use Rattle.doc_fit.proofs.noting.note_mends.Given as goal

-- the mends so far
abbrev pub invariant-loop-k : goal.invariant-loop-k
invariant-loop-k l = l.mends.items ≡ map MakeNote (take l.k l.made)
