-- What other crates may cite of these proofs.

-- A link of a page leads to a URL of one of five schemes.
pub use Rattle.markdown_page.proofs.AllowedLemmas.{links_allowed}
-- How the places of a page are shaped: what is around a paragraph by itself, and no path is longer.
pub use Rattle.markdown_page.proofs.KeptLemmas.{filter_less, kept, shaped_inside, shaped_shown}
-- A page that is put whole.
pub use Rattle.markdown_page.proofs.PageLemmas.{page_put}
-- Events of a page put one behind the other, and places.
pub use Rattle.markdown_page.proofs.PutLemmas.{places_none, places_then}
-- What a page is printed of is right, so that it is read back.
pub use Rattle.markdown_page.proofs.RightLemmas.{page_read}
-- How many bytes a page has.
pub use Rattle.markdown_page.proofs.SizeLemmas.{marks_size, page_size, show_most, small_marks}
