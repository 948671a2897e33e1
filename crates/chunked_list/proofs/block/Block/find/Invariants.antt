use Rattle.std.proofs.Common.{◌≡◌, ◌+◌, take}
use Rattle.chunked_list.specs.Blocks.{total_units}
use Rattle.chunked_list.proofs.block.Block.find.Given as goal

-- the place is counted from this item, and each item before it was a step
abbrev pub invariant-loop-item : goal.invariant-loop-item
invariant-loop-item g l = record {
  here : total_units g.T.Measured.units (take l.item l.self) + l.within ≡ l.place;
  steps : l.steps ≡ l.initial.steps + l.item;
}
