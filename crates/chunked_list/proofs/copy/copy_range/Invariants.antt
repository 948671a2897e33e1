use Rattle.std.proofs.Common.{◌≡◌, length, take}
use Rattle.std.specs.Prelude.{slice_range}
use Rattle.chunked_list.specs.Blocks.{joined}
use Rattle.chunked_list.proofs.copy.copy_range.Given as goal

-- the items of the blocks so far are copied
abbrev pub invariant-loop-block : goal.invariant-loop-block
invariant-loop-block g l = record {
  items : l.copy.items ≡ slice_range (joined (take l.block l.row.blocks)) l.first l.last;
  before : l.before ≡ length (joined (take l.block l.row.blocks));
}
