-- What other crates may cite of these proofs.

-- A document is read from its six values, and has no other.
pub use Rattle.json_doc.proofs.DocumentLemmas.{values_same}
-- The laws on documents as JSON.
pub use Rattle.json_doc.proofs.LawLemmas.{json_one}
