use Rattle.std.proofs.Common.{◌≡◌, ◌+◌, length, take}
use Rattle.chunked_list.specs.Blocks.{joined, total_units}
use Rattle.chunked_list.proofs.row.Row.find.Given as goal

-- the place is counted from this block, whose items come behind those before it, and each block before it was a step
abbrev pub invariant-loop-block : goal.invariant-loop-block
invariant-loop-block g l = record {
  here : total_units g.T.Measured.units (joined (take l.block l.self.blocks)) + l.left ≡ l.place;
  counted : l.before ≡ length (joined (take l.block l.self.blocks));
  steps : l.steps ≡ l.initial.steps + l.block;
}
