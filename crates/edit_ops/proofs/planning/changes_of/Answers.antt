use Rattle.std.proofs.Common.{subst, sym, length, ◌≤◌, arith}
use Rattle.doc_model.specs.declared.document.Document.{Document}
use Rattle.doc_model.specs.Marks.{most_bookmarks}
use Rattle.plain_doc.proofs.Public.{sound_is_valid}
use Rattle.edit_ops.specs.Codes.{HasValidCodes}
use Rattle.edit_ops.proofs.planning.changes_of.Goals as goal

pub section-requires-clause-set : goal.section-requires-clause-set
section-requires-clause-set c = subst (λ command. HasValidCodes command) c.in-Sect.is c.requires.tried.codes

pub with_bookmark-requires-clause-few : goal.with_bookmark-requires-clause-few
with_bookmark-requires-clause-few c =
    let few = (sound_is_valid c.args.document.now c.requires.sound).few_bookmarks in
    let inside =
    subst (λ (d : Document). length d.bookmarks ≤ most_bookmarks) (sym c.document.view_is) few in
    omega (arith, inside)
