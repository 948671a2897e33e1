-- What other crates may cite of these proofs.

-- A page that is written whole.
pub use Rattle.doc_html.proofs.PageLemmas.{form_pages_one, html_pages_read}
-- Items that are written one after another.
pub use Rattle.doc_html.proofs.WriteLemmas.{count_few}
