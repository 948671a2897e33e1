-- What other crates may cite of these proofs.

-- A fast save of bounded units is bounded: the old places keep their pages, and the added ones have runs of their own.
pub use Rattle.fast_save_layout.proofs.FastByRuns.{fast_saves_are_bounded}
-- The table stream: its parts, and zeros behind them where it has sectors of its own.
pub use Rattle.fast_save_layout.proofs.FilledTable.{table_within}
-- Sections of which some have their properties in an old stream: what is made of them item by item, and what is read.
pub use Rattle.fast_save_layout.proofs.PlannedLemmas.{length-planned_seds}
-- What a save that can be appended has: the streams that are there, and the runs that are added.
pub use Rattle.fast_save_layout.proofs.ReadyLemmas.{Ready, old_table_is, paragraphs_named, paragraphs_within}
-- How many pages and Sepxes are added, by what is counted.
pub use Rattle.fast_save_layout.proofs.RunLengths.{pages_are_few}
-- A save whose file keeps its own sectors.
pub use Rattle.fast_save_layout.proofs.SavedInPlace.{stays}
-- The streams of a save are short, and its file has few sectors, by what is counted.
pub use Rattle.fast_save_layout.proofs.ShortLemmas.{appended_files_are_short, appended_saves_are_short}
pub use Rattle.fast_save_layout.proofs.ShortLemmas.{counted_saves_fit}
-- The streams of a container, of which two have new bytes.
pub use Rattle.fast_save_layout.proofs.StreamLemmas.{contents_carried, contents_clsid, contents_has, named_is}
