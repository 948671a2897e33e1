use Rattle.std.proofs.Common.{◌≡◌, take}
use Rattle.doc_read.specs.CarriedParts.{carried_streams}
use Rattle.doc_read.proofs.carried.copy_streams.Given as goal

-- the carried ones of the first streams are copied
abbrev pub invariant-loop-i : goal.invariant-loop-i
invariant-loop-i l = l.streams ≡ carried_streams (take l.i l.container.streams)
