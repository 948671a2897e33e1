use Rattle.std.proofs.Common.{◌∙◌, ◌++◌, ◌∷◌, [], ap}
use Rattle.doc_model.specs.declared.item.Item.{Item}
use Rattle.edit_ops.proofs.rows.with_cell_mark.Goals as goal

pub returns : goal.returns
returns c = c.in_ok-made.ensures ∙ ap (λ (m : Item). c.args.text ++ m ∷ []) c.in_ok-mark.ensures.item
