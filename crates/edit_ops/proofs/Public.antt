-- What other crates may cite of these proofs.

-- The changes of an edit that may be tried can be made, one after another.
pub use Rattle.edit_ops.proofs.CanMakeLemmas.{can_make, length-inserted}
-- An edit has one outcome.
pub use Rattle.edit_ops.proofs.OutcomeLemmas.{one_outcome}
-- Runs of what commands put: elements that all join are one run, and one element is one more at most.
pub use Rattle.edit_ops.proofs.RunLemmas.{HasChp, few_runs, one_run, units_have}
-- Sums over the entries so far, and over ranges.
pub use Rattle.edit_ops.proofs.SumLemmas.{sum_more}
-- What a sound document says of the texts that a command may change.
pub use Rattle.edit_ops.proofs.TextLemmas.{count_upto, right_text}
-- A map without its codes that pass a test.
pub use Rattle.edit_ops.proofs.WithoutLemmas.{nothing_kept}
