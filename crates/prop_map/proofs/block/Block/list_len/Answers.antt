use Rattle.std.proofs.Common.{length, sym, ap, ◌∙◌}
use Rattle.std.specs.Ordering.{nat_cmp}
use Rattle.std.specs.List.{flat_map}
use Rattle.std.specs.FinMap.{entries, entries-from_sorted}
use Rattle.sprm_table.specs.Sprm.{spelling}
use Rattle.prop_map.proofs.EntriesLemmas.{of_true}
use Rattle.prop_map.proofs.block.Block.list_len.Goals as goal

pub returns : goal.returns
returns c =
    c.self.invariant.len_is
    ∙ ap (λ es. length (flat_map spelling es)) (sym (entries-from_sorted nat_cmp _
    (of_true _ c.self.invariant.sorted_is.sorted)) ∙ ap entries c.self.view_is)
