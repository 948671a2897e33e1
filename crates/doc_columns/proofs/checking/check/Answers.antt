use Rattle.std.proofs.Common.{subst, sym, ap}
use Rattle.std.specs.Prelude.{MatchResult}
use Rattle.doc_bits.specs.Rules.{Hold, LeastOrNone}
use Rattle.doc_model.specs.declared.document.Document.{Document}
use Rattle.doc_model.specs.Marks.{AreWrongBookmarks}
use Rattle.plain_doc.specs.Sound.{document_rules}
use Rattle.doc_columns.specs.Checking.{IsCheckFault}
use Rattle.doc_columns.proofs.checking.check.Goals as goal

pub returns-then-branch : goal.returns-then-branch
returns-then-branch c = (c.in_ok-is_sound.ensures c.if-branch.true).rules

pub check_items-verdict-requires : goal.check_items-verdict-requires
check_items-verdict-requires c =
    subst (λ (d : Document). LeastOrNone (AreWrongBookmarks d.bookmarks) c.in_ok-wrong.wrong)
    (sym c.in_ok-items.ensures)
    (subst (λ (d : Document). LeastOrNone (AreWrongBookmarks d.bookmarks) c.in_ok-wrong.wrong) c.document.view_is
    c.in_ok-wrong.ensures)

pub returns : goal.returns
returns c =
    rw c.drop_then.ensures
    (subst (λ (d : Document). MatchResult c.check_items-verdict.result (λ _. Hold (document_rules d)) (IsCheckFault d))
    c.in_ok-items.ensures c.check_items-verdict.ensures)
