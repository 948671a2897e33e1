use Rattle.std.proofs.Common.{◌≡◌, IfOk, subst}
use Rattle.doc_model.specs.declared.document.Document.{Document}
use Rattle.doc_show.specs.Listing.{listing_of}
use Rattle.doc_show.proofs.texts.listing.Goals as goal

pub returns : goal.returns
returns c =
    subst (λ (d : Document). IfOk c.listing_of_columns-made.result (λ text. text ≡ listing_of d))
    c.in_ok-columns.ensures
    c.listing_of_columns-made.ensures
