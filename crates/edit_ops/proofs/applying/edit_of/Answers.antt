use Rattle.std.proofs.Common.{refl, subst, sym}
use Rattle.doc_model.specs.declared.document.Document.{Document}
use Rattle.doc_model.specs.Marks.{HasFormedBookmarks}
use Rattle.edit_ops.specs.Causes.{CanBeTried}
use Rattle.edit_ops.proofs.JudgeLemmas.{outcome}
use Rattle.edit_ops.proofs.KeepLemmas.{keeps_bookmarks}
use Rattle.edit_ops.proofs.applying.edit_of.Goals as goal

pub check_edited-verdict-requires : goal.check_edited-verdict-requires
check_edited-verdict-requires c =
    let tried : CanBeTried c.args.document.now c.args.command.now =
    record { range = c.if-not-is_in_range.ensures.0 refl; codes = c.if-not-has_valid_codes.ensures.0 refl } in
    subst (λ (d : Document). HasFormedBookmarks d) (sym c.in_ok-edit.ensures.document)
    (keeps_bookmarks c.args.document.now c.args.command.now c.requires.bookmarks tried)

pub returns : goal.returns
returns c =
    let tried : CanBeTried c.args.document.now c.args.command.now =
    record { range = c.if-not-is_in_range.ensures.0 refl; codes = c.if-not-has_valid_codes.ensures.0 refl } in
    outcome c.args.document.now c.args.command.now c.in_ok-edit.edit c.check_edited-verdict.result c.keep_if_ok.result
    tried
    c.in_ok-edit.ensures.changes c.in_ok-edit.ensures.document c.in_ok-edit.ensures.facts c.check_edited-verdict.ensures
    c.keep_if_ok.ensures
