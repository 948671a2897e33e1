use Rattle.std.proofs.Common.{ℕ, ◌<◌}
use Rattle.file_rules.specs.SectionRules.{LacksSepx, section_fc}
use Rattle.file_rules.proofs.sections.missing_sepx.Given as goal

-- the sections so far have their properties
abbrev pub invariant-loop-k : goal.invariant-loop-k
invariant-loop-k l = (k : ℕ) → k < l.k → ¬ (LacksSepx l.source.wd (section_fc l.list k))
