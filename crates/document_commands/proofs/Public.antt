-- What other crates may cite of these proofs.

-- What is asked of files that were read has one ending, and is served where their documents have it.
pub use Rattle.document_commands.proofs.AnswerLemmas.{file_done, file_inside, file_one, lists_inside, lists_one}
pub use Rattle.document_commands.proofs.AnswerLemmas.{two_done, two_one}
-- The import of bytes has one reply, and is served where they spell a sound document that fits a file.
pub use Rattle.document_commands.proofs.ImportLemmas.{import_done, import_one}
-- What checking a file says of a run.
pub use Rattle.document_commands.proofs.JudgedLemmas.{names-refused, streams_single}
-- Endings by a reply: their status, and what they put.
pub use Rattle.document_commands.proofs.OutcomeLemmas.{ends_by, ends_done, ends_inside, ends_one, ends_put}
