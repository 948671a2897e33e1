use Rattle.std.proofs.Common.{refl, subst, ℕ, Option}
use Rattle.doc_bits.specs.Rules.{LeastOrNone}
use Rattle.doc_model.specs.Marks.{AreWrongBookmarks}
use Rattle.plain_doc.proofs.BookmarkRuleLemmas.{wrong_there}
use Rattle.plain_doc.proofs.judge.check_bookmarks.Goals as goal

pub returns-in-None : goal.returns-in-None
returns-in-None c =
    let none = subst (LeastOrNone (AreWrongBookmarks c.args.document.now.bookmarks)) c.in-None.is c.requires in
    λ place w. none place.1 w.1

pub returns-in-Some : goal.returns-in-Some
returns-in-Some c =
    let first = subst (LeastOrNone (AreWrongBookmarks c.args.document.now.bookmarks)) c.in-Some.is c.requires in
    rw c.fault.ensures (refl, wrong_there c.args.document.now c.in-Some.at first)
