use Rattle.std.proofs.Common.{subst}
use Rattle.file_rules.specs.declared.fault.ReadFault.{ReadFault}
use Rattle.file_rules.specs.Faults.{IsReadFault}
use Rattle.doc_lift.specs.LiftedFiles.{lifted_rules}
use Rattle.doc_fit.proofs.NotedLemmas.{not_lifted_noted}
use Rattle.doc_fit.proofs.noting.open_noted.Goals as goal

pub returns-in-Err-Refused : goal.returns-in-Err-Refused
returns-in-Err-Refused c =
    let file = c.args.file.now in
    not_lifted_noted c.args.stories file c.in-Err-Refused.field-0-0
    (c.in-Err-Refused.field-0-1, c.in-Err-Refused.field-0-2)
    (subst (λ (f : ReadFault). IsReadFault (lifted_rules file) f) c.in-Err-Refused.field-0-is c.in-Err-Refused.ensures)
