-- What other crates may cite of these proofs.

-- The file of a full save: its streams are those of its layout, and the document is read back of it.
pub use Rattle.fast_save.proofs.FullFileLemmas.{are_streams, equal_files_have_one_save, full_saves_hold, is_layout}
-- One session begins on a file.
pub use Rattle.fast_save.proofs.OneSession.{session_one}
-- An accepted edit adds no more items than a sound document has, and one.
pub use Rattle.fast_save.proofs.RoomLemmas.{edits_add_little}
