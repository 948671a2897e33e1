-- What other crates may cite of these proofs.

-- Changes as the calls of documents make them.
pub use Rattle.doc_patch.proofs.MakeLemmas.{changed_back}
-- A text of a document taken out, changed and put back.
pub use Rattle.doc_patch.proofs.MakingLemmas.{any_text, items_are, such_text, text_weaker, whole_range}
-- Places of a text, found in the runs of what is beside its units.
pub use Rattle.doc_patch.proofs.PlaceLemmas.{nothing}
-- Ranges of a list, spliced and changed.
pub use Rattle.doc_patch.proofs.RangeLemmas.{changed_is, put_more}
