-- What other crates may cite of these proofs.

-- What is printed is read back.
pub use Rattle.markdown_text.proofs.ReadLemmas.{after_tokens-append, after_tokens-markup, are_valid-append}
pub use Rattle.markdown_text.proofs.ReadLemmas.{printed_from-append, printed_from-markup, read_back}
