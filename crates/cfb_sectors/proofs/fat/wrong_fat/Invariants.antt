use Rattle.std.proofs.Common.{ℕ, ◌<◌}
use Rattle.doc_bits.specs.Rules.{Nowhere}
use Rattle.cfb_sectors.specs.HeaderRules.{BreaksFatSector}
use Rattle.cfb_sectors.proofs.fat.wrong_fat.Given as goal

abbrev pub invariant-loop-k : goal.invariant-loop-k
invariant-loop-k l = (j : ℕ) → j < l.k → Nowhere (BreaksFatSector l.file j)
