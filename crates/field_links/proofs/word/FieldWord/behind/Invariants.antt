use Rattle.std.proofs.Common.{◌≡◌, ◌≤◌, length}
use Rattle.field_links.specs.Kept.{rest_of}
use Rattle.field_links.proofs.word.FieldWord.behind.Given as goal

-- the same follows the word without its first units
abbrev pub invariant-loop-more : goal.invariant-loop-more
invariant-loop-more l = (rest_of l.word ≡ rest_of l.self) × (length l.word.rest.now ≤ length l.self.rest.now)

abbrev pub decreases-loop-more : goal.decreases-loop-more
decreases-loop-more l = length l.word.rest.now
