-- What other crates may cite of these proofs.

-- Where the rule on bookmarks holds, and how it is broken.
pub use Rattle.file_rules.proofs.BookmarkLemmas.{bookmarks-hold}
-- The streams of a file are short enough for 32-bit offsets.
pub use Rattle.file_rules.proofs.ContentsLemmas.{streams-small}
-- The rules of a file ascend, and each of their objects is the only one.
pub use Rattle.file_rules.proofs.FileLemmas.{ascends_in, file_ascends, file_single, layout_ascends, part_ascends}
pub use Rattle.file_rules.proofs.FileLemmas.{part_single, pieces_ascend, pieces_single}
-- The bookmarks of a document are formed.
pub use Rattle.file_rules.proofs.KeptLemmas.{bookmarks-formed, none_formed}
-- The levels of lists are within the table stream.
pub use Rattle.file_rules.proofs.ListLemmas.{levels_empty, levels_within}
-- A file has one stream of a name.
pub use Rattle.file_rules.proofs.NameLemmas.{named_one, one_stream}
-- A document has one list of each kind.
pub use Rattle.file_rules.proofs.OneLemmas.{heads_one, notes_one, parts_one, sections_one}
-- The rules on the pages are before those of the parts behind, and hold where each place is right.
pub use Rattle.file_rules.proofs.PageLemmas.{all_hold, formats_hold, formats_refused}
-- The parts of the table stream, which rule 26 puts within it.
pub use Rattle.file_rules.proofs.PartLemmas.{pair-read, part-inside, range_within, table_part-empty}
-- A stretch's refusal is the file's: the rules before it hold.
pub use Rattle.file_rules.proofs.RefusalLemmas.{refused-container, refused-first, refused-given, refused-next}
pub use Rattle.file_rules.proofs.RefusalLemmas.{single_in, stream-missing, stream-there}
-- What the rules on the bin tables and pages tell whoever reads the properties of units and marks.
pub use Rattle.file_rules.proofs.RightPlaces.{bin_tables, hold_out, right_characters, right_paragraphs}
-- Rules on the entries of a table.
pub use Rattle.file_rules.proofs.RowLemmas.{index_of_get, no_row}
-- The places of a text are behind the FIB and within the stream, and so do those of its front.
pub use Rattle.file_rules.proofs.StandLemmas.{StandsBy, below_len, place_stands, places_stand}
-- The stories of a document, by the counts of its FIB.
pub use Rattle.file_rules.proofs.StoryLemmas.{story_count, story_front}
-- The text of a file: it has one, and its streams tell it.
pub use Rattle.file_rules.proofs.TextLemmas.{text_one}
-- The units of pieces, one after the other.
pub use Rattle.file_rules.proofs.UnitLemmas.{length-text_units, piece_read, total-more, total-within}
