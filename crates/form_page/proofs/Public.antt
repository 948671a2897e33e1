-- What other crates may cite of these proofs.

-- Places of a page in a form one after another, and the page that is put whole.
pub use Rattle.form_page.proofs.FormLemmas.{fresh_block, fresh_half, fresh_right, places_none, places_then, whole_put}
