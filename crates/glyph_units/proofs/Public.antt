-- What other crates may cite of these proofs.

-- Units on one path, one behind the other.
pub use Rattle.glyph_units.proofs.RunLemmas.{events-units, last-on, last-units, leaves-on}
-- Units that are characters.
pub use Rattle.glyph_units.proofs.ScalarLemmas.{range_scalars, scalar_half, scalar_text}
-- How many bytes texts have, and how many characters units are.
pub use Rattle.glyph_units.proofs.SizeLemmas.{closed_size, either_size, six_digits, size, size-append, size-decimal}
pub use Rattle.glyph_units.proofs.SizeLemmas.{size-one, size_four, unit_length, units_length, waiting}
