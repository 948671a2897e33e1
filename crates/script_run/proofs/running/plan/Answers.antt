use Rattle.std.proofs.Common.{sym, subst}
use Rattle.doc_model.specs.declared.document.Document.{Document}
use Rattle.edit_ops.specs.Causes.{IsEditFault}
use Rattle.script_run.proofs.running.plan.Goals as goal

pub returns-in-Err : goal.returns-in-Err
returns-in-Err c = λ state same.
    c.refusal.ensures state c.args.command.now
    (subst (λ (d : Document). IsEditFault d c.args.command.now c.in-Err.fault) (sym same) c.in-Err.ensures)
