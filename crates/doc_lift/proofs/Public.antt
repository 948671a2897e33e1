-- What other crates may cite of these proofs.

-- The rules on the bin tables hold of a file of which the rules that are left hold.
pub use Rattle.doc_lift.proofs.BinLemmas.{lifted_bins}
-- Of a file whose own text breaks none of the rules 33 to 57 none is broken by what is read in place of it.
pub use Rattle.doc_lift.proofs.HeldLemmas.{source_held}
-- What the front of a text, behind a FIB of the early form, tells of the streams.
pub use Rattle.doc_lift.proofs.LiftLemmas.{length-lifted_wd}
-- The rules that are left ascend, and each of their objects is the only one.
pub use Rattle.doc_lift.proofs.RuleLemmas.{lifted_single, outer_ascends}
