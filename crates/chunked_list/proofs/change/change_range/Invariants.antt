use Rattle.std.proofs.Common.{◌≡◌, ℕ, length, take, drop}
use Rattle.chunked_list.specs.Blocks.{joined, total_units, block_at, map_range}
use Rattle.chunked_list.proofs.change.change_range.Given as goal

-- the range is exchanged in the blocks so far
abbrev pub invariant-loop-block : goal.invariant-loop-block
invariant-loop-block g l = record {
  before : l.before ≡ length (joined (take l.block l.initial.row.blocks));
  done : joined (take l.block l.row.blocks)
      ≡ map_range (g.C.Mapping.image l.by) (joined (take l.block l.initial.row.blocks)) l.first l.last;
  rest : drop l.block l.row.blocks ≡ drop l.block l.initial.row.blocks;
  long : length l.row.blocks ≡ length l.initial.row.blocks;
  each : (k : ℕ) → length (block_at l.row.blocks k) ≡ length (block_at l.initial.row.blocks k);
  units : total_units g.T.Measured.units (joined l.row.blocks)
      ≡ total_units g.T.Measured.units (joined l.initial.row.blocks);
  spare : l.row.spare ≡ l.initial.row.spare;
}
