-- What other crates may cite of these proofs.

-- A file that is accepted has no text that a reviser deleted.
pub use Rattle.deleted_text.proofs.NoneLemmas.{none_joined, none_listed, refused_there, struck_none}
-- Text is struck in one way.
pub use Rattle.deleted_text.proofs.OneLemmas.{flag_one, struck_one}
-- What the page of a place says of it, and of the places around it.
pub use Rattle.deleted_text.proofs.PlaceLemmas.{spells_nothing}
-- Ranges of texts, one after the other.
pub use Rattle.deleted_text.proofs.RangeLemmas.{all_joined, left_more}
-- What striking leaves as it was.
pub use Rattle.deleted_text.proofs.StrikeLemmas.{struck_formed, struck_units}
