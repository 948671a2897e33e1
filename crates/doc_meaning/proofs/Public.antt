-- What other crates may cite of these proofs.

-- A table stream in which the Prcs of a Clx are skipped that is apart has the other parts, and the levels, as they
pub use Rattle.doc_meaning.proofs.ApartLemmas.{apart_part, clx_table_len, clx_table_one, clx_there}
-- The counts and the pairs of a stream with a FIB of the early form in front are those of the stream.
pub use Rattle.doc_meaning.proofs.EarlyLemmas.{early_part, pair_same, story_same}
-- A text whose gaps are filled reads the same as the one that the streams name, so its document is meant.
pub use Rattle.doc_meaning.proofs.FilledLemmas.{IsPair, bytes_kept, filled_is_meant, layout_holds}
-- The front of a text, behind a FIB of the early form, is loaded in place of the text that the streams name.
pub use Rattle.doc_meaning.proofs.FrontLemmas.{HasFront, front_get, front_loaded, front_text, front_units, whole_text}
-- The rules 33 to 57 hold of a text that is loaded in place of one of which they hold.
pub use Rattle.doc_meaning.proofs.HeldLemmas.{loaded_holds}
-- What the parts hold is the same for a text that reads the same.
pub use Rattle.doc_meaning.proofs.ListLemmas.{read_of}
-- A text that is loaded in place of the one that the streams name reads the same, so its document is meant.
pub use Rattle.doc_meaning.proofs.LoadedLemmas.{loaded_is_meant, table_part_kept}
-- What a file holds it means, and it means one document.
pub use Rattle.doc_meaning.proofs.MeaningLemmas.{file_means, held_is_meant, meaning_is_one, meant_is_held}
