use Rattle.std.proofs.Common.{◌≡◌, take}
use Rattle.doc_model.proofs.texts.Texts.copy.Given as goal

-- the texts so far are copied
abbrev pub invariant-loop-text : goal.invariant-loop-text
invariant-loop-text l = l.texts.items ≡ take l.text-index l.range
