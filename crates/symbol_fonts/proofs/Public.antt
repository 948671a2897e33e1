-- What other crates may cite of these proofs.

-- The characters of signs.
pub use Rattle.symbol_fonts.proofs.CharacterLemmas.{not_below, sign_none}
