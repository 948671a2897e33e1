use Rattle.std.proofs.Common.{arith}
use Rattle.std.proofs.lemmas.Result.{IfOk-weaker}
use Rattle.file_mends.specs.Mends.{bytes_read}
use Rattle.docfit_run.specs.Fitted.{EndsOpened, JudgesFit}
use Rattle.docfit_run.proofs.FitLemmas.{can_end, opened_fits}
use Rattle.docfit_run.proofs.fitting.fit_file.Goals as goal

pub fit_read-ending-requires : goal.fit_read-ending-requires
fit_read-ending-requires c =
    let found = c.in_ok-found.found in
    let is = c.in_ok-found.ensures in
    can_end c.args.plain (bytes_read c.args.file.now found.mended) found.opened is.opened

pub returns-clause-judges : goal.returns-clause-judges
returns-clause-judges c =
    let name = c.args.name.now in
    let out = c.args.out.now in
    let file = c.args.file.now in
    let found = c.in_ok-found.found in
    let is = c.in_ok-found.ensures in
    rw c.drop_then.ensures
    (IfOk-weaker c.fit_read-ending.result (λ e. EndsOpened name out file found e)
    (λ e. JudgesFit c.args.plain name out file e)
    (λ e ends. opened_fits c.args.plain name out file (bytes_read file found.mended) found.mended.mends found.opened e
    is.read_as is.opened ends) c.fit_read-ending.ensures)

pub returns-clause-bytes : goal.returns-clause-bytes
returns-clause-bytes c i = omega (arith, c.type_inv.file i)
