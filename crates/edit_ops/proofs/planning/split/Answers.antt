use Rattle.std.proofs.Common.{◌≡◌, ◌∙◌, ◌∷◌, [], ap, sym, subst, List, arith}
use Rattle.std.specs.Prelude.{IfOk}
use Rattle.doc_model.specs.declared.item.Item.{Item}
use Rattle.doc_patch.specs.Places.{items_at}
use Rattle.edit_ops.specs.Ranges.{HasPlace}
use Rattle.edit_ops.specs.Edits.{insertion}
use Rattle.edit_ops.specs.Fresh.{split_item}
use Rattle.doc_patch.proofs.Public.{items_are, any_text, such_text}
use Rattle.edit_ops.proofs.planning.split.Goals as goal

pub text_of-requires : goal.text_of-requires
text_of-requires c = any_text c.args.document.now c.args.story (HasPlace c.args.at) c.requires

pub split_item-requires : goal.split_item-requires
split_item-requires c =
    let within = such_text c.args.document.now c.args.story (HasPlace c.args.at) c.text_of.result.now c.requires
    c.text_of.ensures in
    omega (arith, within)

pub returns : goal.returns
returns c =
    let text = items_are c.args.document.now c.args.story c.text_of.result.now c.text_of.ensures in
    let items : c.in_ok-items.items ≡ split_item (items_at c.args.document.now c.args.story) c.args.at ∷ [] =
    c.in_ok-items.ensures ∙ ap (λ (t : List Item). split_item t c.args.at ∷ []) (sym text) in
    subst (λ (t : List Item). IfOk c.insertion.result (λ made. made ≡ insertion c.args.story c.args.at t))
    items c.insertion.ensures
