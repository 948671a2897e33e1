use Rattle.std.proofs.Common.{◌∙◌, List, ap}
use Rattle.doc_model.specs.declared.item.Item.{Item}
use Rattle.doc_patch.specs.Changes.{text_changed}
use Rattle.doc_patch.proofs.making.take_text.Goals as goal

pub returns-clause-left : goal.returns-clause-left
returns-clause-left c =
    c.swap_text.ensures.left
    ∙ ap (λ (t : List Item). text_changed (λ _. t) c.args.story c.args.document.now) c.new.ensures
