use Rattle.std.proofs.Common.{◌≡◌, ◌+◌, ◌*◌, ◌≤◌, length, take}
use Rattle.chunked_list.specs.Blocks.{joined, AreSized}
use Rattle.chunked_list.proofs.list.BlockList.of.Given as goal

-- so many full blocks are there, and there is room for the rest
abbrev pub invariant-loop-block : goal.invariant-loop-block
invariant-loop-block g l = record {
  items : joined l.row.blocks ≡ take (128 * l.block) l.items;
  long : length l.row.blocks ≡ l.block;
  sized : AreSized l.row.blocks l.block;
  spare : l.full + 1 ≤ l.row.spare + l.block;
}
