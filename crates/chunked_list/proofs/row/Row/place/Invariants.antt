use Rattle.std.proofs.Common.{◌≡◌, ◌+◌, length, take}
use Rattle.chunked_list.specs.Blocks.{joined}
use Rattle.chunked_list.proofs.row.Row.place.Given as goal

-- the place is counted from this block
abbrev pub invariant-loop-block : goal.invariant-loop-block
invariant-loop-block g l = length (joined (take l.block l.self.blocks)) + l.within ≡ l.i
