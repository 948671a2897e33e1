use Rattle.std.proofs.lemmas.Result.{IfOk-weaker}
use Rattle.doc_fit.specs.Refusals.{IsFitRefused}
use Rattle.docfit_run.specs.Fitted.{EndsOpened, IsSaved}
use Rattle.docfit_run.proofs.FitLemmas.{ends_saved, ends_refused}
use Rattle.docfit_run.proofs.fitting.fit_read.Goals as goal

pub save-requires : goal.save-requires
save-requires c = rw c.in-Ok.is at c.requires

pub refusal-requires : goal.refusal-requires
refusal-requires c = rw c.bytes.ensures (rw c.in-Err.is at c.requires)

pub returns-in-Ok : goal.returns-in-Ok
returns-in-Ok c =
    let name = c.args.name.now in
    let out = c.args.out.now in
    let file = c.args.file.now in
    let found = c.args.found.now in
    let opened = c.in-Ok.opened in
    let mends = c.mends.result.now in
    IfOk-weaker c.save.result
    (λ e. IsSaved out opened.lifted.document opened.losses
    (record { of_file = mends; of_document = opened.mends.items }) e)
    (λ e. EndsOpened name out file found e)
    (λ e saved. ends_saved name out file found opened mends e c.in-Ok.is c.mends.ensures saved) c.save.ensures

pub returns-in-Err : goal.returns-in-Err
returns-in-Err c =
    let name = c.args.name.now in
    let out = c.args.out.now in
    let file = c.args.file.now in
    let found = c.args.found.now in
    let read = c.bytes.result.now in
    IfOk-weaker c.refusal.result (λ e. IsFitRefused read name e) (λ e. EndsOpened name out file found e)
    (λ e refused. ends_refused name out file read found c.in-Err.fault e c.in-Err.is c.bytes.ensures refused)
    c.refusal.ensures
