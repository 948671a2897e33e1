-- What other crates may cite of these proofs.

-- Ranges of lists that are put together, and lists with a range exchanged.
pub use Rattle.chunked_list.proofs.RangeLemmas.{range-append, range_clamped, take-append}
