-- The units of the items are the first column.
use Rattle.std.proofs.Common.{◌∙◌, sym, ap, map}
use Rattle.doc_model.specs.declared.item.Item.{Item}
use Rattle.doc_columns.proofs.ItemsOfLemmas.{units-items_of}
use Rattle.doc_columns.proofs.own.OwnColumns.units.Goals as goal

pub returns : goal.returns
returns c =
    let own = c.self.inside in
    c.deref.ensures.value
    ∙ sym (units-items_of own.units.items own.chps own.attachments c.self.invariant.chps_long
    c.self.invariant.attachments_long)
    ∙ ap (map (λ (item : Item). item.unit)) c.self.view_is
