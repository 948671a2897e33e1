-- What other crates may cite of these proofs.

-- Items that are in a row and have something in common: those of a run.
pub use Rattle.full_save.proofs.AlikeLemmas.{alike_fewer, alike_of, alike_rest, text_next}
-- Where the last run of a text ends, and what WordDocument has from the text on.
pub use Rattle.full_save.proofs.BodyLemmas.{last_fc-text_runs, sections_savable}
-- The Clx of one piece without a modifier.
pub use Rattle.full_save.proofs.ClxLemmas.{none_printed}
-- Lists that are made as the runs of what is beside a text are gone through.
pub use Rattle.full_save.proofs.ColumnLists.{at_end, run_after, run_inside, some_savable, there_at}
-- The runs of characters and of paragraphs, some items with the same properties further.
pub use Rattle.full_save.proofs.ColumnRuns.{IsWalked, run_fits, walk_begins, walk_ends, walk_next}
-- Parts of a table stream that are one after the other are found by their pairs.
pub use Rattle.full_save.proofs.EntriesFound.{AreAllowed, AreNumbered, entries_are_pairs, entries_are_wide}
pub use Rattle.full_save.proofs.EntriesFound.{entry_stands, plain}
-- The streams of a layout whose file fits are short.
pub use Rattle.full_save.proofs.FitLemmas.{stream_short}
-- The layout of a full save: what is where in WordDocument.
pub use Rattle.full_save.proofs.LaidOut.{HasRowTable, LaidOut, character_table, fib_read, paragraph_table, short_wd}
pub use Rattle.full_save.proofs.LaidOut.{stand_sepxes, text_within, unit_there}
-- The streams of a layout are in order, and how long they are.
pub use Rattle.full_save.proofs.LayoutLemmas.{length-wd_stream, other_names}
-- Lists that are made as items and texts are gone through.
pub use Rattle.full_save.proofs.ListLemmas.{drop_here}
-- How long the parts of bookmarks are: nothing where there are none, and at most 2 ^ 24 bytes.
pub use Rattle.full_save.proofs.MarkLengths.{fit_parts, no_ends, no_starts}
-- Of two names that are not the same, one comes first.
pub use Rattle.full_save.proofs.NameOrder.{same_as_itself}
-- Going through streams: parts of a list, and the place of a name.
pub use Rattle.full_save.proofs.PlaceLemmas.{add_next}
-- A stream that is put among others where its name belongs: the names keep their order, and the others stay.
pub use Rattle.full_save.proofs.PutStreams.{IsPutAmong, all_pass, each_put, filter-map, kept_there, length-put}
pub use Rattle.full_save.proofs.PutStreams.{put_among, put_are_streams, put_ascend, put_left_out, put_there, total-put}
-- Sepxes and Seds that are made as the items of a main text are gone through.
pub use Rattle.full_save.proofs.SectionLemmas.{left_here}
-- The runs of characters and of paragraphs, one item further and at the end.
pub use Rattle.full_save.proofs.SoFarLemmas.{paragraphs_end, paragraphs_go_on, paragraphs_left, paragraphs_none_left}
-- How long the two streams of a full save can be, whether or not its file fits.
pub use Rattle.full_save.proofs.StreamLengths.{clx_short, few_collected, length-runs_from, length-seds, length-sepx}
-- The runs of a text: each item is in one with its properties, and pages can be written of them.
pub use Rattle.full_save.proofs.StretchRuns.{AreTextRuns, IsWritableItem, at_seam, character_run, paragraph_run}
pub use Rattle.full_save.proofs.StretchRuns.{text_runs_right}
-- The numbers of the parts of a table stream ascend, and are none that a FIB may not have.
pub use Rattle.full_save.proofs.TableNumbers.{table_allowed, table_numbered}
-- What can be written of the items of a document, and the runs and pages of its text.
pub use Rattle.full_save.proofs.TextLaidOut.{few_items, length-pages, length-text, whole_pages}
-- A text that goes on by items, and the marks behind stories.
pub use Rattle.full_save.proofs.TextLemmas.{joined_next}
