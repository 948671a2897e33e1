use Rattle.std.specs.Prelude.{◌≡◌, ◌++◌, take}
use Rattle.doc_model.specs.Collected.{joined_texts}
use Rattle.full_save.specs.WordDocument.{items_bytes}
use Rattle.full_save.proofs.word_document.append_story.Given as goal

abbrev pub invariant-loop-k : goal.invariant-loop-k
invariant-loop-k l = l.out ≡ l.initial.out ++ items_bytes (joined_texts (take l.k l.texts))
