use Rattle.std.proofs.Common.{ℕ, ◌<◌}
use Rattle.plain_doc.specs.TextRules.{BreaksText}
use Rattle.plain_doc.proofs.PlaceLemmas.{HoldsInText}
use Rattle.plain_doc.proofs.rules_texts.first_in_list.Given as goal

-- no text so far breaks the rule
abbrev pub invariant-loop-k : goal.invariant-loop-k
invariant-loop-k l = (k : ℕ) → k < l.k → HoldsInText l.side l.texts (BreaksText l.rule l.sheet) k
