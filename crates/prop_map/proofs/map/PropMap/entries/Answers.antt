use Rattle.std.proofs.Common.{sym, ap, ◌∙◌}
use Rattle.std.specs.FinMap.{entries}
use Rattle.prop_map.specs.Settings.{shared_or_empty}
use Rattle.prop_map.proofs.EntriesLemmas.{entries-empty}
use Rattle.prop_map.proofs.map.PropMap.entries.Goals as goal

pub returns-in-None : goal.returns-in-None
returns-in-None c = c.none.ensures ∙ sym (ap entries (sym c.self.view_is ∙ ap shared_or_empty c.in-None.is) ∙
    entries-empty)
