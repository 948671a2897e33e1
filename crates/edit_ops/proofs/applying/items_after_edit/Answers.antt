use Rattle.std.proofs.Common.{◌≡◌, ◌∙◌, Ok}
use Rattle.std.proofs.lemmas.Result.{err_from_is_err_and}
use Rattle.edit_ops.proofs.applying.items_after_edit.Goals as goal

pub returns-in_err-edit : goal.returns-in_err-edit
returns-in_err-edit c =
    let p = err_from_is_err_and c.from_residual.result c.from_residual.ensures.1 in
    rw (p.1, p.2) c.in_err-edit.ensures

pub returns-in_err-made : goal.returns-in_err-made
returns-in_err-made c =
    let p = err_from_is_err_and c.from_residual-in_err-made.result c.from_residual-in_err-made.ensures.1 in
    rw (p.1, p.2) tt

pub returns : goal.returns
returns c =
    let edit = c.in_ok-edit.ensures in
    let is : c.expand-items.result ≡ Ok c.in_ok-made.made = cc in
    let items = rw is at c.expand-items.ensures in
    (edit.0, items ∙ edit.1.1.0)
