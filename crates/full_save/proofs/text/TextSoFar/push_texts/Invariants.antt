use Rattle.std.proofs.Common.{◌≡◌, ◌+◌, length, take}
use Rattle.doc_model.specs.Collected.{joined_texts}
use Rattle.full_save.specs.RunsSoFar.{GoesOnBy}
use Rattle.full_save.proofs.text.TextSoFar.push_texts.Given as goal

abbrev pub invariant-loop-k : goal.invariant-loop-k
invariant-loop-k l = GoesOnBy (joined_texts (take l.k l.texts)) l.initial.self l.self × (l.self.len ≡
    l.initial.self.len + length (joined_texts (take l.k l.texts)))
