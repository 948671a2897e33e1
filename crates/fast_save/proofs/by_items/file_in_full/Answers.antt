use Rattle.std.proofs.lemmas.Result.{err_from_is_err_and}
use Rattle.fast_save.proofs.by_items.file_in_full.Goals as goal

pub returns-in_err-file : goal.returns-in_err-file
returns-in_err-file c =
    let p = err_from_is_err_and c.from_residual.result c.from_residual.ensures.1 in rw (p.1, p.2) c.in_err-file.ensures

pub returns : goal.returns
returns c =
    let made = c.in_ok-file.ensures in (made.0, (made.1, c.columns_are_formed.ensures))
