use Rattle.std.proofs.Common.{◌∙◌}
use Rattle.std.proofs.lemmas.Result.{err_from_is_err_and}
use Rattle.std.proofs.Math.Seq.{take-append_seam}
use Rattle.full_save.proofs.pages.append_units.Goals as goal

pub returns-in_err-push16-clause-front : goal.returns-in_err-push16-clause-front
returns-in_err-push16-clause-front c =
    let p = err_from_is_err_and c.from_residual.result c.from_residual.ensures.1 in
    rw (p.1, c.in_err-push16.ensures.err ∙ c.loop-unit.invariant) (take-append_seam c.args.out.now _)
