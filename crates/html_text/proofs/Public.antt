-- What other crates may cite of these proofs.

-- What is printed is read back.
pub use Rattle.html_text.proofs.ReadLemmas.{no_markup, read_back}
