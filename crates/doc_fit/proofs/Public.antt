-- What other crates may cite of these proofs.

-- A file that docbin accepts breaks none of the rules of a fit.
pub use Rattle.doc_fit.proofs.AcceptedLemmas.{breaks_none}
-- What is left out of what was lifted is what is left out of the file.
pub use Rattle.doc_fit.proofs.LossLemmas.{inventory_of, lifted_inventory, lines_fit}
-- What a file that breaks none of the rules that are left means is mended in one way.
pub use Rattle.doc_fit.proofs.MeaningLemmas.{fit_single}
-- A file with its endnotes and comments as notes: what cannot be one, and that it is one.
pub use Rattle.doc_fit.proofs.NotedLemmas.{are_noted_one, document_held, document_one, lines_with_one}
-- A file is refused in one way, and has one list of what is left out.
pub use Rattle.doc_fit.proofs.OneLemmas.{inventory_one, refused_one, text_same}
-- What is lifted and sound is opened, and what is not is refused by the first rule of all.
pub use Rattle.doc_fit.proofs.OpenLemmas.{mended_by, text_meant}
-- What is read in place of a file is one, and an accepted file is read as it is.
pub use Rattle.doc_fit.proofs.ReadAsLemmas.{AreOneRead, accepted_read, long_read, read_bytes, read_one}
pub use Rattle.doc_fit.proofs.ReadAsLemmas.{refused_not_accepted}
-- What a rule that is broken tells of a file: where it is one on the program, WordDocument is there.
pub use Rattle.doc_fit.proofs.RefusalLemmas.{refused_by}
