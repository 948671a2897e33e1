use Rattle.std.proofs.Common.{ℕ, ◌<◌, length}
use Rattle.plain_doc.specs.RulesOfItems.{IsWrongItem}
use Rattle.plain_doc.specs.TextRules.{IsValidItem}
use Rattle.plain_doc.proofs.rules_texts.wrong_item.Given as goal

-- no item so far is wrong
abbrev pub invariant-loop-i : goal.invariant-loop-i
invariant-loop-i l = (k : ℕ) → k < l.i → IsWrongItem (IsValidItem l.rule l.sheet l.part (length l.text)) l.text k → ⊥
