-- What other crates may cite of these proofs.

-- A run that edits a document has one ending, but for the bytes of a last save that is fast.
pub use Rattle.doc_run.proofs.EditLemmas.{script_few}
-- The session that begins on a file.
pub use Rattle.doc_run.proofs.SessionLemmas.{unchanged_of}
