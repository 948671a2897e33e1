use Rattle.std.proofs.Common.{ℕ, ◌<◌}
use Rattle.plain_doc.specs.StyleRules.{IsWrongStyle}
use Rattle.plain_doc.proofs.rules_sheet.wrong_style.Given as goal

-- no style so far is wrong
abbrev pub invariant-loop-istd : goal.invariant-loop-istd
invariant-loop-istd l = (k : ℕ) → k < l.istd → IsWrongStyle l.rule l.sheet k → ⊥
