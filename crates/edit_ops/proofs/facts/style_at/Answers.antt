use Rattle.std.proofs.Common.{◌∙◌, [], sym, ap, List, Option}
use Rattle.std.specs.Option.{unwrap_or}
use Rattle.doc_model.specs.declared.item.Item.{Item}
use Rattle.edit_ops.specs.EditFacts.{style_before}
use Rattle.edit_ops.proofs.facts.style_at.Goals as goal

pub returns-in-None : goal.returns-in-None
returns-in-None c =
    sym (ap (λ (o : Option (List Item)). style_before (unwrap_or o []) c.args.at) c.in-None.ensures)

pub returns-in-Some : goal.returns-in-Some
returns-in-Some c =
    c.style_before.ensures
    ∙ sym (ap (λ (o : Option (List Item)). style_before (unwrap_or o []) c.args.at) c.in-Some.ensures)
