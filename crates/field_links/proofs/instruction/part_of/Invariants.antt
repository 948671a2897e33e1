use Rattle.std.proofs.Common.{◌≡◌, length}
use Rattle.field_links.specs.declared.instruction.Role.TheVariants.{Text}
use Rattle.field_links.specs.Words.{field_words}
use Rattle.field_links.specs.Instructions.{part_behind}
use Rattle.field_links.proofs.instruction.part_of.Given as goal

-- no word so far is the part
abbrev pub invariant-loop-word : goal.invariant-loop-word
invariant-loop-word l = part_behind l.part l.role (field_words l.rest) ≡ part_behind l.part Text (field_words l.words)

abbrev pub decreases-loop-word : goal.decreases-loop-word
decreases-loop-word l = length l.rest
