-- What other crates may cite of these proofs.

-- Bookmarks at the front of a list.
pub use Rattle.doc_places.proofs.AnchorLemmas.{anchors_more, lead_few, lead_more, lead_none, lead_on}
-- The paths of a document have few elements, whose numbers have few digits.
pub use Rattle.doc_places.proofs.FewLemmas.{few_bare, few_block, few_inline, few_note_path, small_cells}
-- The last reference to a note.
pub use Rattle.doc_places.proofs.LinkLemmas.{up_to_reference-more}
-- Places of items one after another, and what they show.
pub use Rattle.doc_places.proofs.PlaceLemmas.{count_one, grid_of-cons, hidden_item, items_places-append}
pub use Rattle.doc_places.proofs.PlaceLemmas.{items_places-hidden, items_places-none, items_places-one}
