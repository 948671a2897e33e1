use Rattle.std.proofs.Common.{◌∙◌, ◌++◌, ◌∷◌, [], ap}
use Rattle.doc_model.specs.declared.item.Item.{Item}
use Rattle.edit_ops.proofs.FreshTextLemmas.{length-one}
use Rattle.edit_ops.proofs.fresh.with_mark.Goals as goal

pub returns-clause-items : goal.returns-clause-items
returns-clause-items c =
    c.in_ok-made.ensures ∙ ap (λ (m : Item). c.args.text ++ m ∷ []) c.in_ok-mark.ensures.item

pub returns-clause-len : goal.returns-clause-len
returns-clause-len c = length-one c.args.text c.in_ok-made.made c.in_ok-mark.mark c.in_ok-made.ensures
