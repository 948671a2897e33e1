use Rattle.std.proofs.Common.{◌≡◌, take}
use Rattle.doc_model.proofs.carried.copy_streams.Given as goal

-- the streams so far are copied
abbrev pub invariant-loop-i : goal.invariant-loop-i
invariant-loop-i l = l.copy ≡ take l.i l.fn.streams
