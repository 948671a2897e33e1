-- What other crates may cite of these proofs.

-- The format of a character, by the changes of its layers.
pub use Rattle.char_formats.proofs.FormatLemmas.{format_one, format_there}
