use Rattle.std.proofs.Common.{◌≡◌, length, take}
use Rattle.doc_model.specs.Collected.{joined_texts}
use Rattle.fast_save.proofs.stories.items_of.Given as goal

-- the items of the texts so far
abbrev pub invariant-loop-k : goal.invariant-loop-k
invariant-loop-k l = l.count ≡ length (joined_texts (take l.k l.texts))
