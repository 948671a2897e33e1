-- What other crates may cite of these proofs.

-- Digits are a text.
pub use Rattle.text_codes.proofs.DigitLemmas.{accepted, hex_ascii, two_are_utf8}
-- How a shown text goes on: by a pair, or by a unit alone.
pub use Rattle.text_codes.proofs.ShownLemmas.{apart_low}
