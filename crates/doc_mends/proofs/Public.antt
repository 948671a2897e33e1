-- What other crates may cite of these proofs.

-- Mends keep bookmarks formed: their ends go with the main text, which gets no shorter otherwise.
pub use Rattle.doc_mends.proofs.BookmarkLemmas.{bookmarks_stay}
-- Ranges that are checked and struck.
pub use Rattle.doc_mends.proofs.MendLemmas.{filtered, length-map_range, range_kept, ranges_stay, texts_kept}
-- Changes of properties leave the units of all texts.
pub use Rattle.doc_mends.proofs.ModifiedLemmas.{modified_units}
-- A document is mended in one way.
pub use Rattle.doc_mends.proofs.OneLemmas.{one_way}
-- The rows of a text, one item after the other.
pub use Rattle.doc_mends.proofs.RowLemmas.{listed_all}
-- A document that breaks no rule has no mends.
pub use Rattle.doc_mends.proofs.SoundLemmas.{no_mends}
-- The units of a mended document are those that it had, but for what is printed of its mends.
pub use Rattle.doc_mends.proofs.UnitsStayLemmas.{units_stay}
