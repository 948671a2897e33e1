use Rattle.std.proofs.Common.{ℕ, ◌<◌}
use Rattle.doc_bits.specs.Rules.{Nowhere}
use Rattle.piece_table.specs.ClxRules.{IsNoCpAscent}
use Rattle.piece_table.proofs.judge.no_ascent.Given as goal

-- the rule holds at the pieces before this one
abbrev pub invariant-loop-k : goal.invariant-loop-k
invariant-loop-k l = (j : ℕ) → j < l.k → Nowhere (IsNoCpAscent l.plc l.base j)
