-- What other crates may cite of these proofs.

-- The tags of a page nest.
pub use Rattle.html_page.proofs.BracketLemmas.{page_nests}
-- No tag of a page has a > of its own, so that the page is read back.
pub use Rattle.html_page.proofs.CloseLemmas.{page_read}
-- Each tag of a page is one of a closed list.
pub use Rattle.html_page.proofs.KnownLemmas.{tags_known}
-- Pieces of a page put one behind the other, and elements that are closed and opened.
pub use Rattle.html_page.proofs.PutLemmas.{half_of-append, places_none, places_then, tokens_of-append, tokens_then}
-- How many bytes a page has.
pub use Rattle.html_page.proofs.SizeLemmas.{anchor_size, anchor_tags, line_break_size, note_mark_size, object_size}
pub use Rattle.html_page.proofs.SizeLemmas.{page_break_size, page_size, picture_size, show_size, size-escaped_text}
pub use Rattle.html_page.proofs.SizeLemmas.{small_tags, tab_size, tags_size, tokens_size, units_size}
