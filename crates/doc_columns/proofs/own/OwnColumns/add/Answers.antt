-- Each column has an entry more.
use Rattle.std.proofs.Common.{◌∙◌, [], ◌∷◌, ◌++◌, sym, ap, subst, arith}
use Rattle.doc_model.specs.declared.item.Item.{Item}
use Rattle.doc_model.specs.Document.{HasPropertyMaps}
use Rattle.doc_columns.proofs.ItemsOfLemmas.{text_long, added_columns, added_are}
use Rattle.doc_columns.proofs.own.OwnColumns.add.Goals as goal

pub add-requires : goal.add-requires
add-requires c =
    let own = c.self.inside in
    let are = c.self.invariant in
    let long = text_long own.units.items own.chps own.attachments c.args.self are c.self.view_is in
    record { few = omega (arith, long, are.chps_long, c.requires.few) }

pub invariant_of-result : goal.invariant_of-result
invariant_of-result c =
    let own = c.self.inside in
    let are = c.self.invariant in
    let parts = c.parts_of-unit.result in
    let long = text_long own.units.items own.chps own.attachments c.args.self are c.self.view_is in
    added_are own.units.items own.chps own.attachments c.push.new.self.items c.add.new.self c.add-2.new.self parts.0
    parts.1
    parts.2 are c.in_ok-push.ensures.items c.in_ok-add.ensures.ok c.in_ok-add-2.ensures.ok
    (omega (arith, long, c.requires.few)) c.is_word.ensures c.is_ranged.ensures
    (subst HasPropertyMaps c.parts_of-unit.ensures c.requires.maps)

pub returns : goal.returns
returns c =
    let own = c.self.inside in
    let parts = c.parts_of-unit.result in
    added_columns own.units.items own.chps own.attachments c.push.new.self.items c.add.new.self c.add-2.new.self parts.0
    parts.1 parts.2 c.args.self c.self.invariant c.self.view_is c.in_ok-push.ensures.items c.in_ok-add.ensures.ok
    c.in_ok-add-2.ensures.ok
    ∙ ap (λ (item : Item). c.args.self ++ item ∷ []) (sym c.parts_of-unit.ensures)
