-- What other crates may cite of these proofs.

-- An item of a document has one text of property lines.
pub use Rattle.doc_show.proofs.OneTextLemmas.{lines_one}
