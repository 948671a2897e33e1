-- What other crates may cite of these proofs.

-- No character of a page is a control.
pub use Rattle.doc_view.proofs.ControlLemmas.{page_plain}
-- How a text is gone through.
pub use Rattle.doc_view.proofs.CourseLemmas.{course_walk, few_numbered, item_course, item_room, item_there}
pub use Rattle.doc_view.proofs.CourseLemmas.{references_on, seen_is}
-- The header texts are put one by one.
pub use Rattle.doc_view.proofs.HeaderLemmas.{no_references}
-- A document has one page.
pub use Rattle.doc_view.proofs.LawLemmas.{pages_one, same_formats}
-- How long what is seen of a text is.
pub use Rattle.doc_view.proofs.LengthLemmas.{IsSmall, IsSmallIn, IsSmallNumber, IsSmallReference, IsSmallSeen}
pub use Rattle.doc_view.proofs.LengthLemmas.{references_few}
-- The notes are put one by one.
pub use Rattle.doc_view.proofs.NoteLemmas.{none_met, shown_by}
-- A page that is put whole.
pub use Rattle.doc_view.proofs.PageLemmas.{failed_page, formats_there, prefix_page, sound_normal, sound_styles}
pub use Rattle.doc_view.proofs.PageLemmas.{whole_page}
-- What is seen of ranges of items.
pub use Rattle.doc_view.proofs.RangeLemmas.{one_range, seen_none, seen_one, seen_range, seen_then}
-- A page of text is as long as its document.
pub use Rattle.doc_view.proofs.ShortLemmas.{IsShort, IsShortIn, IsShortLabel, items_of, of_text, references_short}
pub use Rattle.doc_view.proofs.ShortLemmas.{values_short, with_values_long, with_values_short}
-- A text is put paragraph by paragraph.
pub use Rattle.doc_view.proofs.TextLemmas.{next_left, no_values, none_left, paragraph_begins, right_style, values_next}
pub use Rattle.doc_view.proofs.TextLemmas.{values_none}
-- Items that are seen as their units, one by one and together.
pub use Rattle.doc_view.proofs.UnitLemmas.{AreUnits, IsUnitAt, behind_units, course_behind, range_characters}
pub use Rattle.doc_view.proofs.UnitLemmas.{seen_itself, still_shows, unit_seen, units_at, units_course}
