use Rattle.std.proofs.Common.{◌≡◌, ◌++◌, map, take}
use Rattle.doc_mends.specs.declared.mends.Mend.TheVariants.{KeepDeleted}
use Rattle.deleted_text.proofs.striking.push_kept.Given as goal

-- the mends so far
abbrev pub invariant-loop-k : goal.invariant-loop-k
invariant-loop-k l = l.mends.items ≡ l.fn.mends.items ++ map KeepDeleted (take l.k l.kept)
