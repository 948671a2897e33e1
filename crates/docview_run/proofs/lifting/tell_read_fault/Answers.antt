use Rattle.std.proofs.Common.{subst}
use Rattle.file_rules.specs.Faults.{IsReadFault}
use Rattle.file_rules.specs.declared.fault.ReadFault.{ReadFault}
use Rattle.doc_fit.specs.Rules.{fit_rules}
use Rattle.docview_run.proofs.ViewLemmas.{rule_status}
use Rattle.docview_run.proofs.lifting.tell_read_fault.Goals as goal

pub returns-in-Ok : goal.returns-in-Ok
returns-in-Ok g c =
    let refused = c.in-Refused in
    rule_status c.args.read.now refused.rule (refused.place, refused.offset) c.status_of_rule.result
    (subst (λ (f : ReadFault). IsReadFault (fit_rules c.args.read.now) f) refused.is c.requires) c.status_of_rule.ensures
