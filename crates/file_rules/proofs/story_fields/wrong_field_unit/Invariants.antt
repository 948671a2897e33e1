use Rattle.std.proofs.Common.{ℕ, ◌<◌}
use Rattle.file_rules.specs.FieldRules.{HasOtherUnit}
use Rattle.file_rules.proofs.story_fields.wrong_field_unit.Given as goal

-- the units so far are those in the text
abbrev pub invariant-loop-k : goal.invariant-loop-k
invariant-loop-k l = (k : ℕ) → k < l.k → ¬ (HasOtherUnit l.units l.list k)
