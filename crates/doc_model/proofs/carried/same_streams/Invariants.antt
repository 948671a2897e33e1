use Rattle.std.proofs.Common.{◌≡◌, take}
use Rattle.doc_model.proofs.carried.same_streams.Given as goal

-- the streams so far are the same
abbrev pub invariant-loop-i : goal.invariant-loop-i
invariant-loop-i l = take l.i l.fn.streams ≡ take l.i l.fn.other
