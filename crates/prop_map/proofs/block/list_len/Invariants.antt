use Rattle.std.proofs.Common.{◌≡◌, ◌+◌, ◌≤◌, length}
use Rattle.std.specs.List.{flat_map}
use Rattle.sprm_table.specs.Sprm.{spelling}
use Rattle.prop_map.specs.Block.{block_bytes, list_length}
use Rattle.prop_map.proofs.block.list_len.Given as goal

-- of the entries before those that are left the length as a list, and of these the length in the block
abbrev pub invariant-loop-code : goal.invariant-loop-code
invariant-loop-code l = record {
  len : l.len + length (flat_map spelling l.left) ≡ list_length l.block + length (block_bytes l.left);
  least : length (flat_map spelling l.left) ≤ list_length l.block;
}

abbrev pub decreases-loop-code : goal.decreases-loop-code
decreases-loop-code l = length l.left
