use Rattle.std.proofs.Common.{◌≡◌, drop}
use Rattle.field_links.specs.Words.{field_words}
use Rattle.field_links.proofs.word.behind_separators.Given as goal

-- separators part no words
abbrev pub invariant-loop-count : goal.invariant-loop-count
invariant-loop-count l = field_words (drop l.count l.instruction) ≡ field_words l.instruction
