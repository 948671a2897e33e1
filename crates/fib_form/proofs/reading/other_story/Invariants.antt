use Rattle.std.proofs.Common.{ℕ, ◌<◌}
use Rattle.doc_bits.specs.Rules.{Nowhere}
use Rattle.fib_form.specs.FibRules.{HasOtherStory}
use Rattle.fib_form.proofs.reading.other_story.Given as goal

-- the counts before this one are 0
abbrev pub invariant-loop-k : goal.invariant-loop-k
invariant-loop-k l = (j : ℕ) → j < l.k → Nowhere (HasOtherStory l.wd j)
