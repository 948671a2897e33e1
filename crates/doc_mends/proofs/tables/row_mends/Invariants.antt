use Rattle.std.proofs.Common.{◌≡◌, map, take}
use Rattle.doc_mends.specs.declared.mends.Mend.TheVariants.{PlainRow}
use Rattle.doc_mends.proofs.tables.row_mends.Given as goal

-- the mends so far
abbrev pub invariant-loop-k : goal.invariant-loop-k
invariant-loop-k l = l.mends.items ≡ map PlainRow (take l.k l.found)
