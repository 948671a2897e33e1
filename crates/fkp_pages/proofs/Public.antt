-- What other crates may cite of these proofs.

-- Bin tables: their ranges in order, and the table that is printed.
pub use Rattle.fkp_pages.proofs.BinLemmas.{bin_fcs_ascend, bin_page_one}
-- What a page answers at a place of one of its runs.
pub use Rattle.fkp_pages.proofs.FoundLemmas.{lists_have_properties}
-- Pages: where each run is, and what the bin table names.
pub use Rattle.fkp_pages.proofs.FoundPages.{items_before, length-starts, page_between, page_of_bytes}
-- The limit of a page as it goes down, and which runs fit.
pub use Rattle.fkp_pages.proofs.LimitLemmas.{limit_after-append, limit_after-none, limit_after-one}
-- A table of old ranges and then of those of a row.
pub use Rattle.fkp_pages.proofs.LongerLemmas.{fc_before, fc_behind, longer_tables_name_both, ranges_kept}
-- Runs that touch and ascend, and where a page says that they begin and end.
pub use Rattle.fkp_pages.proofs.OrderLemmas.{AreInOrder, SaysFcs, ends_upto, ends_upto_last, in_order, inner_in_order}
pub use Rattle.fkp_pages.proofs.OrderLemmas.{last_fc_is, says_fcs}
-- The pages that are made run by run are right for the runs.
pub use Rattle.fkp_pages.proofs.PackedLemmas.{fits_page-Decides, runs_have_pages}
-- The bin table that is printed.
pub use Rattle.fkp_pages.proofs.PrintedBinLemmas.{fc_upto_end, length-printed_bin, printed_count, printed_fc}
pub use Rattle.fkp_pages.proofs.PrintedBinLemmas.{printed_page, printed_table}
-- The property list of a byte place.
pub use Rattle.fkp_pages.proofs.PropertyLemmas.{list_at_one, run_answer_one}
-- Pages one after the other, and the ranges that name them.
pub use Rattle.fkp_pages.proofs.RowLemmas.{length-numbered_bins, pages_stand_in_a_row, row_is_printable}
-- Runs whose pages are in a row: the table of the row, and the list of a run through it.
pub use Rattle.fkp_pages.proofs.RowTableLemmas.{IsRowTable, row_list, row_low, row_run, run_list_accepted, table_of_row}
-- Pages as a whole: their size, and their first fcs.
pub use Rattle.fkp_pages.proofs.WholePages.{pages_are_whole}
