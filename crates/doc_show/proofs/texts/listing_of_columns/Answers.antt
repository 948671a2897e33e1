use Rattle.std.proofs.Common.{◌≡◌, subst}
use Rattle.doc_model.specs.declared.document.Document.{Document}
use Rattle.doc_show.specs.Listing.{listing_of}
use Rattle.doc_show.proofs.LineLemmas.{five_written}
use Rattle.doc_show.proofs.texts.listing_of_columns.Goals as goal

pub returns : goal.returns
returns c =
    subst (λ (d : Document). c.push_bookmarks.new.text ≡ listing_of d) c.document.view_is
    (five_written c.new-text.result c.push_sheet.new.text c.push_text.new.text c.push_texts.new.text
    c.push_texts-2.new.text c.push_bookmarks.new.text _ _ _ _ _ c.new-text.ensures c.in_ok-push_sheet.ensures
    c.in_ok-push_text.ensures c.in_ok-push_texts.ensures c.in_ok-push_texts-2.ensures c.in_ok-push_bookmarks.ensures)
