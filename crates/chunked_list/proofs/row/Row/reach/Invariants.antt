use Rattle.std.proofs.Common.{◌≡◌, ◌≤◌, length, take}
use Rattle.chunked_list.specs.Blocks.{joined}
use Rattle.chunked_list.proofs.row.Row.reach.Given as goal

-- so many items are before this block, and the one that is looked for is none of them
abbrev pub invariant-loop-block : goal.invariant-loop-block
invariant-loop-block g l = record {
  before : length (joined (take l.block l.self.blocks)) ≡ l.before;
  ahead : l.before ≤ l.i;
}
