-- A text more.
use Rattle.std.proofs.Common.{◌∙◌, ◌<◌, ◌++◌, ◌∷◌, [], List, length, sym, ap, arith}
use Rattle.doc_model.proofs.Public.{take_next}
use Rattle.doc_model.specs.declared.item.Item.{Item}
use Rattle.doc_columns.proofs.texts.ColumnTexts.from_texts.Goals as goal

pub loop-k-preserved : goal.loop-k-preserved
loop-k-preserved c =
    let texts : List (List Item) = c.args.texts.now in
    let text : List Item = c.get.result.now in
    let within : c.loop-k.k < length texts = omega (arith, c.loop-k-test.true, c.len-k-end.ensures.len) in
    c.in_ok-add.ensures.ok
    ∙ ap (λ (t : List Item). c.loop-k.made ++ t ∷ []) (c.in_ok-from_items.ensures ∙ c.as_slice.ensures.items)
    ∙ ap (λ (front : List (List Item)). front ++ text ∷ []) c.loop-k.invariant
    ∙ sym (take_next texts c.loop-k.k text within c.get.ensures)
