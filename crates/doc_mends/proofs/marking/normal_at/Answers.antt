use Rattle.std.proofs.Common.{◌∙◌, ap, List, slice_set}
use Rattle.doc_model.specs.declared.item.Item.{Item}
use Rattle.doc_patch.proofs.Public.{changed_back}
use Rattle.doc_mends.specs.NormalMarks.{normal_text}
use Rattle.doc_mends.proofs.marking.normal_at.Goals as goal

pub returns : goal.returns
returns c =
    let made : List Item = c.in_ok-made.made in
    c.replace.ensures.new
    ∙ (ap (λ (l : List (List Item)). slice_set l c.args.k made) c.replace-text.ensures.new
    ∙ changed_back (normal_text c.args.sheet.now) c.args.texts.now c.args.k c.new.result c.replace-text.result made
    c.replace-text.ensures.old c.in_ok-made.ensures)
