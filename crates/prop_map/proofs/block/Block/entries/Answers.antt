use Rattle.std.proofs.Common.{sym, ap, subst, ◌∙◌}
use Rattle.std.specs.Ordering.{nat_cmp}
use Rattle.std.specs.FinMap.{entries, entries-from_sorted}
use Rattle.prop_map.specs.Block.{entries_in, IsPropertyBlock}
use Rattle.prop_map.proofs.EntriesLemmas.{of_true}
use Rattle.prop_map.proofs.block.Block.entries.Goals as goal

pub invariant_of-result : goal.invariant_of-result
invariant_of-result c = subst IsPropertyBlock (sym c.as_slice.ensures) c.self.invariant.sorted_is.block_is

pub returns : goal.returns
returns c =
    ap entries_in c.as_slice.ensures
    ∙ (sym (entries-from_sorted nat_cmp _ (of_true _ c.self.invariant.sorted_is.sorted)) ∙ ap entries c.self.view_is)
