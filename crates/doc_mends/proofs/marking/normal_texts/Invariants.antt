use Rattle.std.proofs.Common.{◌≡◌, ◌++◌, map, take, drop}
use Rattle.doc_mends.specs.NormalMarks.{normal_text}
use Rattle.doc_mends.proofs.marking.normal_texts.Given as goal

-- the first texts are made, and the others are as they were
abbrev pub invariant-loop-k : goal.invariant-loop-k
invariant-loop-k l = l.texts ≡ map (normal_text l.sheet) (take l.k l.fn.texts) ++ drop l.k l.fn.texts
