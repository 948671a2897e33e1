-- What other crates may cite of these proofs.

-- Printed bookmarks are read back.
pub use Rattle.doc_parts.proofs.BookmarkBackLemmas.{length-front, length-starts, map_next, tabulate_is}
-- Printed bookmarks break no rule, and they alone are read back.
pub use Rattle.doc_parts.proofs.BookmarkLawLemmas.{bookmarks_back}
-- Bookmarks as they are read: where their parts break their rule, and what they spell.
pub use Rattle.doc_parts.proofs.BookmarkPartLemmas.{all_tabulated, all_tabulated_below, first_place, kept-next}
pub use Rattle.doc_parts.proofs.BookmarkPartLemmas.{kept_numbers, length-tabulate, name_place-next, read_some}
pub use Rattle.doc_parts.proofs.BookmarkPartLemmas.{right_from_none, tabulate-next}
-- CPs that ascend or never fall, said step by step, are in the order that a table of CPs has.
pub use Rattle.doc_parts.proofs.CpLemmas.{Climb, Rise, climb_in_order, climb_lower, rise_from_zero, rise_in_order}
pub use Rattle.doc_parts.proofs.CpLemmas.{rise_lower, rise_step, rise_within}
-- Lists from what is at each place, and the entries of tables without a wrong one.
pub use Rattle.doc_parts.proofs.ExistLemmas.{entries_there, list_of}
-- Printed lists break no rule, and they alone are read back.
pub use Rattle.doc_parts.proofs.LawLemmas.{fields_back, refs_back, sections_back, texts_back}
-- The levels after PlfLst.
pub use Rattle.doc_parts.proofs.LevelLemmas.{level_count-empty, level_start-more, level_start-up, level_start-zero}
pub use Rattle.doc_parts.proofs.LevelLemmas.{levels-none, levels_before-more, levels_before-zero, levels_hold}
pub use Rattle.doc_parts.proofs.LevelLemmas.{levels_inside}
-- The places of ends among the sorted ends.
pub use Rattle.doc_parts.proofs.NumberingLemmas.{length-ends, sum_by-of_map}
-- What was printed is read back.
pub use Rattle.doc_parts.proofs.ReadBackLemmas.{AreEntries-unique}
-- Tables as they are read: the entries before the first wrong one.
pub use Rattle.doc_parts.proofs.TableLemmas.{count_of_whole, table_of_plc}
