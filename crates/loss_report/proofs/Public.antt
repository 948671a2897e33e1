-- What other crates may cite of these proofs.

-- The lines of what is left out: one feature after the other.
pub use Rattle.loss_report.proofs.ReportLemmas.{range_cut}
