-- What other crates may cite of these proofs.

-- The laws of specs/Laws.
pub use Rattle.edit_guards.proofs.LawLemmas.{one_of}
