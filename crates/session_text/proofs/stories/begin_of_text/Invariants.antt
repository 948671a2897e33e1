use Rattle.std.proofs.Common.{◌≡◌}
use Rattle.session_text.specs.StoryMarks.{nth_text_begin}
use Rattle.session_text.proofs.stories.begin_of_text.Given as goal

-- the items of the texts so far
abbrev pub invariant-loop-k : goal.invariant-loop-k
invariant-loop-k l = l.begin ≡ nth_text_begin l.texts l.k
