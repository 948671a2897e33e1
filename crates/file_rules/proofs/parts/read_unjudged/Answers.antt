use Rattle.std.proofs.lemmas.Result.{err_from_is_err_and}
use Rattle.file_rules.proofs.PageLemmas.{formats_refused, rest_refused}
use Rattle.file_rules.proofs.parts.read_unjudged.Goals as goal

pub returns-in-Ok : goal.returns-in-Ok
returns-in-Ok c =
    let read = c.in-Ok.ensures in
    (record { layout = c.in_ok-sections.ensures.0; rest = read.0 }, read.1)

pub returns-in_err-check_formats-in-Err : goal.returns-in_err-check_formats-in-Err
returns-in_err-check_formats-in-Err c =
    let fault = c.in_err-check_formats-in-Err.field-0.0 in
    let p = err_from_is_err_and c.from_residual-in_err-check_formats-in-Err.result
    c.from_residual-in_err-check_formats-in-Err.ensures.1 in
    rw (p.1, p.2)
    (formats_refused c.args.source.now fault c.in_ok-sections.ensures.0 c.in_err-check_formats-in-Err.ensures)

pub returns-in_ok-check_formats-in-Err : goal.returns-in_ok-check_formats-in-Err
returns-in_ok-check_formats-in-Err c =
    rest_refused c.args.source.now c.in-Err.fault c.in_ok-sections.ensures.0
    c.in_ok-check_formats-in-Err.ensures c.in-Err.ensures
