use Rattle.std.proofs.Common.{length, sym, ap, ◌∙◌}
use Rattle.std.specs.List.{flat_map}
use Rattle.sprm_table.specs.Sprm.{spelling}
use Rattle.prop_map.specs.Settings.{shared_or_empty}
use Rattle.prop_map.specs.Printing.{printed_list}
use Rattle.prop_map.proofs.EntriesLemmas.{entries-empty}
use Rattle.prop_map.proofs.map.PropMap.list_len.Goals as goal

pub returns-in-None : goal.returns-in-None
returns-in-None c = sym (ap (λ m. length (printed_list m)) (sym c.self.view_is ∙ ap shared_or_empty c.in-None.is) ∙ ap
    (λ es. length (flat_map spelling es)) entries-empty)
