-- What other crates may cite of these proofs.

-- Pieces of a page put one behind the other.
pub use Rattle.page_out.proofs.PrintLemmas.{failed_before, failed_behind, flag_cases, nothing_put, put_none, put_then}
pub use Rattle.page_out.proofs.PrintLemmas.{three_put}
