-- What other crates may cite of these proofs.

-- On a block of bytes before a sink.
pub use Rattle.doc_outer.proofs.BlockLemmas.{AppendsPrefix-more, Sends-append, Sends-ends, Sends-fails, Sends-waits}
-- On counts that rise in one part of a call after the other.
pub use Rattle.doc_outer.proofs.CountLemmas.{Rose-after, count_on, count_stays}
-- On facts that hold wherever the files are known, and on names that stay.
pub use Rattle.doc_outer.proofs.HeldLemmas.{StaysAt-refl, Told-map}
-- On appending one piece after another.
pub use Rattle.doc_outer.proofs.WrittenLemmas.{Appends-nil}
