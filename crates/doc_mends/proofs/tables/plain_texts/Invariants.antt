use Rattle.std.proofs.Common.{◌≡◌, ◌++◌, map, take, drop}
use Rattle.doc_mends.specs.PlainRows.{plain_text}
use Rattle.doc_mends.proofs.tables.plain_texts.Given as goal

-- the first texts are made, and the others are as they were
abbrev pub invariant-loop-k : goal.invariant-loop-k
invariant-loop-k l = l.texts ≡ map plain_text (take l.k l.fn.texts) ++ drop l.k l.fn.texts
