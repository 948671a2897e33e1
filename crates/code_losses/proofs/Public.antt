-- What other crates may cite of these proofs.

-- A file has one list of such codes.
pub use Rattle.code_losses.proofs.LawLemmas.{losses_one}
