use Rattle.std.proofs.lemmas.Result.{err_from_is_err_and}
use Rattle.fast_save.proofs.session.Session.start.Goals as goal

pub returns-in_err-bytes : goal.returns-in_err-bytes
returns-in_err-bytes c =
    let p = err_from_is_err_and c.from_residual.result c.from_residual.ensures.1 in
    rw (p.1, p.2) tt

pub returns-in-Ok : goal.returns-in-Ok
returns-in-Ok c = c.begin.ensures

pub returns-in-Err : goal.returns-in-Err
returns-in-Err c = c.in-Err.ensures
