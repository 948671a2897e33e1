-- What other crates may cite of these proofs.

-- The sectors that are added behind a file, by what is counted.
pub use Rattle.save_laws.proofs.BehindLemmas.{saves_behind_are_few}
-- The lengths of bin tables.
pub use Rattle.save_laws.proofs.BinLemmas.{longer_tables_are_short}
-- The standard finds the paragraphs of the marks in a text of which each unit is bounded.
pub use Rattle.save_laws.proofs.ByRunsLemmas.{total_more}
-- A Clx is short: a Prc for a piece at most, and twelve bytes for each piece.
pub use Rattle.save_laws.proofs.ClxLemmas.{clx_is_short, reckoned_prcs_are_short}
-- What a session writes is a save of its document.
pub use Rattle.save_laws.proofs.FastLemmas.{fast_saves_are_saves}
-- What is counted bounds the sectors of the file.
pub use Rattle.save_laws.proofs.FileLemmas.{fast_saves_fit, fast_streams_fit}
-- Each unit of a full save is bounded: a run of paragraphs ends behind each mark, and nowhere else.
pub use Rattle.save_laws.proofs.FullByRuns.{shown_ends, slot_there, story_ends}
-- The layout of a full save is a save of its document.
pub use Rattle.save_laws.proofs.FullSavedLemmas.{full_saves_are_saves, given_after}
-- The Sepxes of a full save: each section has its properties where its Sed says.
pub use Rattle.save_laws.proofs.FullSections.{FitsSepx, sections_saved}
-- A file that holds a document, as a session begins with it.
pub use Rattle.save_laws.proofs.GivenFiles.{AreHeld, given_files_stand, given_sections_are_saved, held_rules}
-- A saved document is held by its contents, and by a file that has them.
pub use Rattle.save_laws.proofs.HeldLemmas.{files_hold}
-- A stream that keeps bytes and pages of an older one gives what that one gives.
pub use Rattle.save_laws.proofs.KeptLemmas.{named_kept, page_kept}
-- The marks of a text, and the runs of paragraphs that they end.
pub use Rattle.save_laws.proofs.MarkRunLemmas.{both_marks}
-- The pages of a text are counted: texts that are joined have no more than both, and bare marks share one.
pub use Rattle.save_laws.proofs.PageBoundLemmas.{bare_marks_share, characters_take, page_bounds_add}
pub use Rattle.save_laws.proofs.PageBoundLemmas.{page_bounds_are_fewer, pages_upto_runs, paragraphs_begin}
-- A place that represents an item is read as it.
pub use Rattle.save_laws.proofs.PlaceLemmas.{mark_before}
-- The streams of a file of which two have new bytes: names are apart, so each of the two is one stream.
pub use Rattle.save_laws.proofs.RenewedLemmas.{name_six, named_streams_are_renewed}
-- Runs are counted: lists that are joined have no more stretches than both, and paragraphs are one more at most.
pub use Rattle.save_laws.proofs.RunLemmas.{few_stretches}
-- The runs of paragraphs that a stream tells at its places, where its bin table is that of one row of pages.
pub use Rattle.save_laws.proofs.RunPlaces.{ending_bounded, ends_with_runs, inner_bounded, run_told, stream_of_row}
pub use Rattle.save_laws.proofs.RunPlaces.{told_as, upto_last}
-- A sound document that is saved: the counts, places and units of its stories, and the parts of its table stream.
pub use Rattle.save_laws.proofs.SavedLemmas.{Save, part_is}
-- The places and the slots of a session are together after each edit.
pub use Rattle.save_laws.proofs.SessionLemmas.{in_parts, longer_plans_keep, main_splices, map_splice}
pub use Rattle.save_laws.proofs.SessionLemmas.{modified_stay_together, splice_front, splices_stay_together, zip_before}
pub use Rattle.save_laws.proofs.SessionLemmas.{zipped_together}
-- Pages are counted where runs for which nothing is written share one.
pub use Rattle.save_laws.proofs.SharedLemmas.{bare_runs_share}
-- What is counted bounds the two streams.
pub use Rattle.save_laws.proofs.SizeLemmas.{counts_bound_streams}
-- The slots of a saved document by their CPs.
pub use Rattle.save_laws.proofs.SlotLemmas.{IsShownAs, all_shown, length-loose_if, length-story_slots, main_slot}
-- The table streams of a document differ by their bin tables and their Clx alone: every other part has one length.
pub use Rattle.save_laws.proofs.TableLemmas.{tables_are_short, tables_differ_by_own_parts}
