use Rattle.std.proofs.Common.{◌∙◌, ap, sym, subst, map, List, Some}
use Rattle.doc_bits.proofs.Public.{All_at, get-map}
use Rattle.doc_model.specs.declared.item.Item.{Item}
use Rattle.doc_model.specs.Document.{HasPropertyMaps, IsFormedItem}
use Rattle.doc_mends.specs.PlainRows.{plain_item}
use Rattle.doc_mends.proofs.TableLemmas.{plain_maps}
use Rattle.doc_mends.proofs.plain_items.item_in.Goals as goal

pub returns-clause-item : goal.returns-clause-item
returns-clause-item c =
    let items : List Item = c.args.items.now in
    get-map plain_item items c.args.at c.get.result.now c.get.ensures
    ∙ ap (λ (item : Item). Some item) (sym c.in_ok-made.ensures)

pub returns-clause-maps : goal.returns-clause-maps
returns-clause-maps c =
    let items : List Item = c.args.items.now in
    let formed = All_at IsFormedItem items c.args.at c.get.result.now c.len-len.ensures.formed.each c.get.ensures in
    subst HasPropertyMaps (sym c.in_ok-made.ensures) (plain_maps c.get.result.now formed.maps)
