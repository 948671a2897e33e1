use Rattle.std.proofs.Common.{◌≡◌, ◌++◌, take}
use Rattle.doc_model.specs.Collected.{joined_texts}
use Rattle.session_text.proofs.gathered.TextBuilder.with_texts.Given as goal

-- the texts so far are there
abbrev pub invariant-loop-k : goal.invariant-loop-k
invariant-loop-k l = l.made ≡ l.fn.self ++ joined_texts (take l.k l.fn.texts)
