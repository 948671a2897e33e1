-- What other crates may cite of these proofs.

-- Three columns, one of which is changed in a range.
pub use Rattle.doc_columns.proofs.ChangesLemmas.{has_parts, own_range}
-- The items of a text, run by run.
pub use Rattle.doc_columns.proofs.CollectLemmas.{start_at}
-- Where a paragraph ends, by what is beside its items.
pub use Rattle.doc_columns.proofs.EndLemmas.{EndsAt, end_attached}
-- Lists of runs that represent the same values.
pub use Rattle.doc_columns.proofs.EqualityLemmas.{begins_at_start, column_long}
-- The items of three columns: lengths, parts, places.
pub use Rattle.doc_columns.proofs.ItemsOfLemmas.{item_at, items_of-append, items_of-maps, length-items_of, none_columns}
pub use Rattle.doc_columns.proofs.ItemsOfLemmas.{none_items, text_long}
-- When the texts and the bookmarks of a document by columns are right.
pub use Rattle.doc_columns.proofs.RightLemmas.{chps_formed}
-- A document by columns, as it is seen.
pub use Rattle.doc_columns.proofs.SeenLemmas.{seen_document}
-- A text is right where its bare items are, and the text of its special items is.
pub use Rattle.doc_columns.proofs.SpecialLemmas.{cells_onto_last, seam}
-- Walks over the columns of a text, and its items.
pub use Rattle.doc_columns.proofs.WalkLemmas.{attached_there, begins_range, first_walk, items_long, later_walk, part_at}
pub use Rattle.doc_columns.proofs.WalkLemmas.{range_got, range_long, units_are}
