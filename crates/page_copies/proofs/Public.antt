-- What other crates may cite of these proofs.

-- Where a stream has a list, the stream with skipped pages has it at the same place, skipped or as it was.
pub use Rattle.page_copies.proofs.AfterLemmas.{HasListAfter, list_after, same_after}
-- A copy answers as its page does.
pub use Rattle.page_copies.proofs.AnswerLemmas.{counted_back, entry_same, fc_same}
-- The lists of skipped pages, by the bin tables.
pub use Rattle.page_copies.proofs.ListLemmas.{IsKeptPage, copy_acts, list_before}
-- The pages that the first ranges of a bin table name.
pub use Rattle.page_copies.proofs.NameLemmas.{page_named}
-- Pages are skipped in one way.
pub use Rattle.page_copies.proofs.OneLemmas.{pages_one}
