-- What other crates may cite of these proofs.

-- No cell reaches far.
pub use Rattle.cell_spans.proofs.SmallLemmas.{small_no_tables, small_outside, small_single, small_span_at}
