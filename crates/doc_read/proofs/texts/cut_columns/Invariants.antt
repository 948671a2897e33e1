use Rattle.std.proofs.Common.{◌≡◌}
use Rattle.doc_read.specs.Texts.{AreCutFrom}
use Rattle.doc_read.proofs.texts.cut_columns.Given as goal

-- the texts so far are cut out of the same text
abbrev pub invariant-loop-k : goal.invariant-loop-k
invariant-loop-k l = record {
  same : l.whole ≡ l.initial.whole;
  cut : AreCutFrom l.whole l.begin l.cuts l.k l.texts;
}
