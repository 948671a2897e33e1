use Rattle.std.proofs.lemmas.Result.{err_from_is_err_and}
use Rattle.edit_ops.proofs.applying.facts_or_fault.Goals as goal

pub returns-in_err-edit : goal.returns-in_err-edit
returns-in_err-edit c =
    let p = err_from_is_err_and c.from_residual.result c.from_residual.ensures.1 in
    rw (p.1, p.2) c.in_err-edit.ensures

pub returns : goal.returns
returns c =
    let edit = c.in_ok-edit.ensures in
    rw c.drop_then.ensures (edit.0, edit.1.1.1)
