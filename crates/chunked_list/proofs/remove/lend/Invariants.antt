use Rattle.std.proofs.Common.{◌≡◌, ◌+◌, ◌++◌, take, set}
use Rattle.chunked_list.specs.Blocks.{block_at}
use Rattle.chunked_list.proofs.remove.lend.Given as goal

-- so many items are lent
abbrev pub invariant-loop-i : goal.invariant-loop-i
invariant-loop-i g l = record {
  blocks : l.row.blocks
      ≡ set l.initial.row.blocks l.block (block_at l.initial.row.blocks l.block
      ++ take l.i (block_at l.initial.row.blocks (l.block + 1)));
  spare : l.row.spare ≡ l.initial.row.spare;
}
