use Rattle.std.proofs.Common.{[], refl}
use Rattle.prop_map.proofs.BlockLemmas.{block_of, no_block_entries, entries_in-none}
use Rattle.prop_map.proofs.block.Entries.none.Goals as goal

pub invariant_of-result : goal.invariant_of-result
invariant_of-result c = block_of [] [] no_block_entries refl

pub returns : goal.returns
returns c = entries_in-none
