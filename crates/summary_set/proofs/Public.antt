-- What other crates may cite of these proofs.

-- The set with another title: it can be written, and the same title once more changes nothing.
pub use Rattle.summary_set.proofs.TitleLemmas.{writable}
-- A written set is a property set: its numbers, and its pairs.
pub use Rattle.summary_set.proofs.WrittenLemmas.{length-written}
