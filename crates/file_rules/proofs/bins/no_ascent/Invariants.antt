use Rattle.std.proofs.Common.{ℕ, ◌<◌}
use Rattle.file_rules.specs.BinRules.{IsNoFcAscent}
use Rattle.file_rules.proofs.bins.no_ascent.Given as goal

-- the fcs so far ascend
abbrev pub invariant-loop-k : goal.invariant-loop-k
invariant-loop-k l = (k : ℕ) → k < l.k → ¬ (IsNoFcAscent l.table k)
