use Rattle.std.proofs.Common.{◌≡◌, take}
use Rattle.doc_model.proofs.texts.Texts.equal.Given as goal

-- the texts so far are the same
abbrev pub invariant-loop-i : goal.invariant-loop-i
invariant-loop-i l = take l.i l.fn.self ≡ take l.i l.fn.other
