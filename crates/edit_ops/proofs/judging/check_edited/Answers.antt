use Rattle.std.proofs.Common.{subst}
use Rattle.doc_columns.specs.declared.checking.CheckFault.{CheckFault}
use Rattle.doc_columns.specs.Checking.{IsCheckFault}
use Rattle.edit_ops.proofs.judging.check_edited.Goals as goal

pub returns-in-Ok : goal.returns-in-Ok
returns-in-Ok c = record { rules = c.in-Ok.ensures; bookmarks = c.requires }

pub returns-in-Err-Rule : goal.returns-in-Err-Rule
returns-in-Err-Rule c =
    c.edit_fault.ensures c.args.document.now
    (subst (λ (f : CheckFault). IsCheckFault c.args.document.now f) c.in-Err-Rule.field-0-is c.in-Err-Rule.ensures)
