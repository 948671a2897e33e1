-- What other crates may cite of these proofs.

-- The streams that a document carries: where they are in the file, their order and their number.
pub use Rattle.doc_read.proofs.CarriedLemmas.{without_chain}
-- The streams of a file that breaks no rule of its container are within bounds.
pub use Rattle.doc_read.proofs.ContentsBounds.{bounded, contents-bounded}
-- What is read from the parts of a file makes its document.
pub use Rattle.doc_read.proofs.DocumentLemmas.{heads_within, notes_within}
-- What is at a CP, where the CPs ascend.
pub use Rattle.doc_read.proofs.EntryLemmas.{entry_of_parts}
-- What holds of all values holds of that of a CP; field bytes and units are small.
pub use Rattle.doc_read.proofs.EntryValues.{AreByteFields}
-- A file that breaks none of the rules 1 to 57 holds a document, which is well formed.
pub use Rattle.doc_read.proofs.ExistDocument.{files_hold, ready}
-- The text of a file has its units.
pub use Rattle.doc_read.proofs.ExistFits.{TextFits, text_fits, text_held}
-- Each CP of a text has its item, which is well formed.
pub use Rattle.doc_read.proofs.ExistItems.{items_there, parts_of}
-- The parts of a document that breaks no rule hold their lists.
pub use Rattle.doc_read.proofs.ExistParts.{part_bytes_are, part_lists_there}
-- Each section has its properties.
pub use Rattle.doc_read.proofs.ExistSections.{section_maps_there}
-- The text of a file: its bytes, its places and their modifiers.
pub use Rattle.doc_read.proofs.ExistText.{named_bytes}
-- The streams of a file are short, and so are the lists of its parts.
pub use Rattle.doc_read.proofs.FewLemmas.{leaves_room}
-- The bookmarks of a document that a file holds are in order, and within its main text.
pub use Rattle.doc_read.proofs.FormedBookmarks.{held_formed, parts-formed}
-- Where the rules on the parts hold the page of each CP is right.
pub use Rattle.doc_read.proofs.GivenPlaces.{RightText, character_place, mark_place}
-- The CPs at which something is ascend.
pub use Rattle.doc_read.proofs.MarkListLemmas.{ends_up, length-section_lasts, some_section}
-- The names of streams that are carried.
pub use Rattle.doc_read.proofs.NameLemmas.{table-not_carried, wd-not_carried}
-- A file holds one document, and names one first broken rule.
pub use Rattle.doc_read.proofs.OneDocument.{all_single, carried_one, document_one, held_parts, same_document}
-- What is at a CP, and in a text, is one thing.
pub use Rattle.doc_read.proofs.OneItem.{HaveBins, same_item}
-- What a file has, it has once.
pub use Rattle.doc_read.proofs.PartsOfOneFile.{file_parts_one, same_lists, section_maps_one}
-- The place of a CP, by the pieces.
pub use Rattle.doc_read.proofs.PlaceLemmas.{place_at, place_in_piece, read_at_place}
-- The units that end a paragraph have their page.
pub use Rattle.doc_read.proofs.RightLemmas.{any_index, ends_more, paragraphs_right}
-- The properties of the sections, read one after the other.
pub use Rattle.doc_read.proofs.SettingsLemmas.{sepx-right, sepx-there}
-- The streams that a document carries are no longer than the longest file.
pub use Rattle.doc_read.proofs.ShortStreams.{streams_short}
-- The items of a part of the text.
pub use Rattle.doc_read.proofs.SliceLemmas.{cuts_within, note_cuts_within}
-- CPs that ascend between two bounds.
pub use Rattle.doc_read.proofs.UpLemmas.{IsUpWithin}
