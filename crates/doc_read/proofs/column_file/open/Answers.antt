use Rattle.std.proofs.Common.{sym, subst}
use Rattle.std.proofs.lemmas.Result.{err_from_is_err_and}
use Rattle.doc_read.specs.Opened.{IsOpened}
use Rattle.doc_read.proofs.column_file.open.Goals as goal

pub read_and_check-requires-clause-of_file : goal.read_and_check-requires-clause-of_file
read_and_check-requires-clause-of_file c = record {
  file = c.args.file.now;
  holds = c.in_ok-container.ensures.0;
  has = c.in_ok-container.ensures.1;
}

pub returns-in_err-found : goal.returns-in_err-found
returns-in_err-found c =
    let p = err_from_is_err_and c.from_residual-in_err-found.result c.from_residual-in_err-found.ensures.1 in
    rw (p.1, p.2) (c.in_err-found.ensures c.args.file.now c.in_ok-container.ensures.0 c.in_ok-container.ensures.1)

pub returns : goal.returns
returns c =
    subst (IsOpened c.args.file.now) (sym c.file_of.ensures)
    (c.in_ok-found.ensures c.args.file.now c.in_ok-container.ensures.0 c.in_ok-container.ensures.1)
