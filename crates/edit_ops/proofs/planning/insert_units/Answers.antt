use Rattle.std.proofs.Common.{◌≡◌, ◌∙◌, ap, sym, subst, List}
use Rattle.std.specs.Prelude.{IfOk}
use Rattle.doc_model.specs.declared.item.Item.{Item}
use Rattle.doc_patch.specs.Places.{items_at}
use Rattle.edit_ops.specs.Edits.{insertion}
use Rattle.edit_ops.specs.Fresh.{inserted_items}
use Rattle.doc_patch.proofs.Public.{items_are}
use Rattle.edit_ops.proofs.planning.insert_units.Goals as goal

pub returns : goal.returns
returns c =
    let text = items_are c.args.document.now c.args.story c.text_of-text.result.now c.text_of-text.ensures in
    let items : c.in_ok-items.items
    ≡ inserted_items (items_at c.args.document.now c.args.story) c.args.at c.args.units.now =
    c.in_ok-items.ensures ∙ ap (λ (t : List Item). inserted_items t c.args.at c.args.units.now) (sym text) in
    subst (λ (t : List Item). IfOk c.insertion.result (λ made. made ≡ insertion c.args.story c.args.at t))
    items c.insertion.ensures
