-- What other crates may cite of these proofs.

-- A page of a document is read back.
pub use Rattle.doc_markdown.proofs.ReadLemmas.{pages_read}
