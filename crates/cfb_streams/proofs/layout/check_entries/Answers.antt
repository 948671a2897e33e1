use Rattle.std.proofs.lemmas.Result.{err_from_is_err_and}
use Rattle.cfb_directory.specs.Reach.{IsDirectory}
use Rattle.cfb_streams.proofs.LoadLemmas.{own_fault}
use Rattle.cfb_streams.proofs.layout.check_entries.Goals as goal

pub returns-in_err-entries-clause-judged : goal.returns-in_err-entries-clause-judged
returns-in_err-entries-clause-judged c =
    let is : IsDirectory c.args.file.now c.in_ok-directory.directory.items =
    rw c.in_ok-directory.ensures at c.in_ok-find_directory.ensures.found in
    let p = err_from_is_err_and c.from_residual-in_err-entries.result c.from_residual-in_err-entries.ensures.1 in
    rw (p.1, p.2)
    (own_fault c.args.file.now c.in_ok-directory.directory.items c.in_err-entries.field-0.0 is c.in_err-entries.ensures)
