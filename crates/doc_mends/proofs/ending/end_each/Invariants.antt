use Rattle.std.proofs.Common.{◌≡◌, ◌++◌, map, take, drop}
use Rattle.doc_mends.specs.Ends.{with_end, is_heads}
use Rattle.doc_mends.proofs.ending.end_each.Given as goal

-- the first texts end, and the others are as they were
abbrev pub invariant-loop-k : goal.invariant-loop-k
invariant-loop-k l = l.texts ≡ map (with_end (is_heads l.side)) (take l.k l.fn.texts) ++ drop l.k l.fn.texts
