-- What other crates may cite of these proofs.

-- Lists by their places, of which some are listed or joined.
pub use Rattle.doc_losses.proofs.ListingLemmas.{joined_more, left_nil, listed_more, none_joined, none_listed, right_nil}
-- A file that breaks no rule on its FIB has no references to stories that are left out.
pub use Rattle.doc_losses.proofs.NoneLemmas.{names_none, no_references}
-- Lists by their places, of which nothing is kept, listed or joined.
pub use Rattle.doc_losses.proofs.NothingLemmas.{none_kept, nothing_joined, nothing_listed}
-- The marks of texts, one item and one text after the other.
pub use Rattle.doc_losses.proofs.ReferenceLemmas.{same_names}
