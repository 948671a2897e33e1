use Rattle.std.proofs.Common.{◌≡◌, sym, subst}
use Rattle.std.specs.Prelude.{MatchResult}
use Rattle.doc_model.specs.declared.document.Document.{Document}
use Rattle.plain_doc.specs.Sound.{IsSound}
use Rattle.edit_ops.specs.Causes.{IsAcceptedEdit, IsEditFault}
use Rattle.edit_ops.specs.EditFacts.{edit_facts}
use Rattle.edit_ops.proofs.applying.test.Goals as goal

pub facts_or_fault-told-requires : goal.facts_or_fault-told-requires
facts_or_fault-told-requires c = subst IsSound (sym c.in_ok-columns.ensures) c.requires

pub returns : goal.returns
returns c =
    rw c.drop_then.ensures
    (subst (λ (d : Document). MatchResult c.facts_or_fault-told.result
    (λ facts. IsAcceptedEdit d c.args.command.now × (facts ≡ edit_facts d c.args.command.now))
    (IsEditFault d c.args.command.now)) c.in_ok-columns.ensures c.facts_or_fault-told.ensures)
