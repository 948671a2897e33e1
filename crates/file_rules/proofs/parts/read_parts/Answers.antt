use Rattle.std.proofs.lemmas.Result.{err_from_is_err_and, MatchResult-weaker}
use Rattle.file_rules.proofs.PageLemmas.{all_hold, formats_refused, rest_refused}
use Rattle.file_rules.proofs.parts.read_parts.Goals as goal

pub returns-in_err-check_pages : goal.returns-in_err-check_pages
returns-in_err-check_pages c =
    let fault = c.in_err-check_pages.field-0.0 in
    let p = err_from_is_err_and c.from_residual-in_err-check_pages.result
    c.from_residual-in_err-check_pages.ensures.1 in
    rw (p.1, p.2)
    (formats_refused c.args.source.now fault c.in_ok-sections.ensures.0 c.in_err-check_pages.ensures)

pub returns : goal.returns
returns c =
    let source = c.args.source.now in
    let layout = c.in_ok-sections.ensures.0 in
    let formats = c.in_ok-check_pages.ensures in
    MatchResult-weaker c.read_rest.result c.read_rest.ensures
    (λ parts read. (all_hold source (record { layout = layout; rest = read.0 }) formats, read.1))
    (λ fault refused. rest_refused source fault layout formats refused)
