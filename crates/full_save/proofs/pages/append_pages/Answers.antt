use Rattle.std.proofs.lemmas.Result.{err_from_is_err_and}
use Rattle.std.proofs.Math.Seq.{take-append_seam, take-length}
use Rattle.full_save.proofs.pages.append_pages.Goals as goal

pub returns-in_err-push_all-clause-front : goal.returns-in_err-push_all-clause-front
returns-in_err-push_all-clause-front c =
    let p = err_from_is_err_and c.from_residual.result c.from_residual.ensures.1 in
    rw (p.1, c.in_err-push_all.ensures.err) (take-length c.args.out.now)

pub returns-in_err-add_to-clause-front : goal.returns-in_err-add_to-clause-front
returns-in_err-add_to-clause-front c =
    let p = err_from_is_err_and c.from_residual-in_err-add_to.result c.from_residual-in_err-add_to.ensures.1 in
    rw (p.1, c.in_ok-push_all.ensures.ok) (take-append_seam c.args.out.now _)
