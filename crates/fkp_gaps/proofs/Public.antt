-- What other crates may cite of these proofs.

-- What a filled table names at a place, and that it is one.
pub use Rattle.fkp_gaps.proofs.FilledLemmas.{filled_bin_is_one, filled_places_have_lists, named_within}
-- Which places are gaps, by the range of the bin table and by what the page answers.
pub use Rattle.fkp_gaps.proofs.GapLemmas.{gaps_have_no_list}
-- The page of one run of all places, and the stream with that page behind it.
pub use Rattle.fkp_gaps.proofs.PageLemmas.{length-with_empty_run, stream_number, stream_range}
