use Rattle.std.proofs.Common.{◌≡◌, take}
use Rattle.doc_model.specs.Carried.{with_bytes}
use Rattle.doc_model.proofs.other_bytes.copy_streams_with.Given as goal

-- the streams so far are copied
abbrev pub invariant-loop-k : goal.invariant-loop-k
invariant-loop-k l = l.copy ≡ take l.k (with_bytes l.fn.streams l.i l.bytes)
