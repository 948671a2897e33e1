use Rattle.std.proofs.Common.{◌≡◌, ℕ, ◌+◌, ◌≤◌, length, take, drop}
use Rattle.chunked_list.specs.Blocks.{joined, total_units, AreSizedBut}
use Rattle.chunked_list.proofs.remove.drop_front.Given as goal

-- what is left to go is at the front of the blocks that are there
abbrev pub invariant-loop-turn : goal.invariant-loop-turn
invariant-loop-turn g l = record {
  front : take l.block l.row.blocks ≡ take l.block l.initial.row.blocks;
  back : drop l.left (joined (drop l.block l.row.blocks)) ≡ drop l.count (joined (drop l.block l.initial.row.blocks));
  low : l.left ≤ length (joined (drop l.block l.row.blocks));
  long : length l.row.blocks + l._turn ≡ length l.initial.row.blocks + l.block;
  spare : l.row.spare ≡ l.initial.row.spare;
  units : total_units g.T.Measured.units (joined l.row.blocks)
      ≤ total_units g.T.Measured.units (joined l.initial.row.blocks);
  sized : (full from : ℕ) → from ≤ l.block → AreSizedBut l.initial.row.blocks full from l.block
      → AreSizedBut l.row.blocks full from l.block;
}
