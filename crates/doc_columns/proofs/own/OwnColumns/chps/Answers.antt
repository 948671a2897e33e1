-- Their properties are the second one.
use Rattle.std.proofs.Common.{◌∙◌, sym, ap, map}
use Rattle.doc_model.specs.declared.item.Item.{Item}
use Rattle.doc_columns.proofs.ItemsOfLemmas.{chps-items_of}
use Rattle.doc_columns.proofs.own.OwnColumns.chps.Goals as goal

pub returns : goal.returns
returns c =
    let own = c.self.inside in
    c.as_runs.ensures.runs
    ∙ sym (chps-items_of own.units.items own.chps own.attachments c.self.invariant.chps_long
    c.self.invariant.attachments_long)
    ∙ ap (map (λ (item : Item). item.chp)) c.self.view_is
