use Rattle.std.proofs.Common.{◌≡◌, take}
use Rattle.doc_columns.proofs.texts.ColumnTexts.expand.Given as goal

-- the texts so far
abbrev pub invariant-loop-k : goal.invariant-loop-k
invariant-loop-k l = l.made ≡ take l.k l.fn.self
