use Rattle.std.proofs.Common.{ℕ, ◌<◌}
use Rattle.plain_doc.specs.declared.rules_texts.TextRule.{TextRule}
use Rattle.plain_doc.specs.TextRules.{BreaksText}
use Rattle.plain_doc.proofs.Public.{HoldsInText}
use Rattle.doc_columns.proofs.judge.are_valid_texts.Given as goal

-- no text so far breaks a rule
abbrev pub invariant-loop-k : goal.invariant-loop-k
invariant-loop-k l = (rule : TextRule) (k : ℕ) → k < l.k → HoldsInText l.side l.texts (BreaksText rule l.sheet) k
