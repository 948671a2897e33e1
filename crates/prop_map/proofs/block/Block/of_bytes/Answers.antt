use Rattle.std.proofs.Common.{sym, ap, subst, ◌∙◌}
use Rattle.prop_map.specs.Block.{list_length, IsPropertyBlock, IsSortedBlock}
use Rattle.prop_map.proofs.block.Block.of_bytes.Goals as goal

pub list_len-list_len-requires : goal.list_len-list_len-requires
list_len-list_len-requires c = subst IsPropertyBlock (sym (c.as_slice.ensures ∙ c.fit.ensures)) c.requires.block_is

pub invariant_of-result : goal.invariant_of-result
invariant_of-result c = record {
  sorted_is = subst IsSortedBlock (sym c.fit.ensures) c.requires;
  len_is = c.list_len-list_len.ensures ∙ ap list_length c.as_slice.ensures;
}
