use Rattle.std.proofs.Common.{◌≡◌, take, map, length}
use Rattle.cfb_layout.proofs.writing.lengths_of.Given as goal

abbrev pub invariant-loop-i : goal.invariant-loop-i
invariant-loop-i l = l.lengths.items ≡ map (λ stream. length stream.bytes) (take l.i l.streams)
