use Rattle.std.proofs.Common.{◌≡◌, sym, subst}
use Rattle.std.specs.Prelude.{MatchResult}
use Rattle.doc_model.specs.declared.document.Document.{Document}
use Rattle.plain_doc.specs.Sound.{IsSound}
use Rattle.edit_ops.specs.Causes.{IsAcceptedEdit, IsEditFault}
use Rattle.edit_ops.specs.Edits.{document_after}
use Rattle.edit_ops.proofs.applying.document_after_edit.Goals as goal

pub items_after_edit-made-requires : goal.items_after_edit-made-requires
items_after_edit-made-requires c = subst IsSound (sym c.in_ok-columns.ensures) c.requires

pub returns : goal.returns
returns c =
    rw c.drop_then.ensures
    (subst (λ (d : Document). MatchResult c.items_after_edit-made.result
    (λ made. IsAcceptedEdit d c.args.command.now × (made ≡ document_after d c.args.command.now))
    (IsEditFault d c.args.command.now)) c.in_ok-columns.ensures c.items_after_edit-made.ensures)
