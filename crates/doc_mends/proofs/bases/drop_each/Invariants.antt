use Rattle.std.proofs.Common.{◌≡◌, take}
use Rattle.doc_mends.specs.Bases.{bases_dropped}
use Rattle.doc_mends.proofs.bases.drop_each.Given as goal

-- the first bases are gone
abbrev pub invariant-loop-k : goal.invariant-loop-k
invariant-loop-k l = l.sheet ≡ bases_dropped (take l.k l.istds) l.fn.sheet
