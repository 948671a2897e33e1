-- What other crates may cite of these proofs.

-- Where no style breaks the rule of bases, each style has its chain.
pub use Rattle.style_sheet.proofs.BaseLemmas.{unbroken_bases}
-- Chains of bases: the bases that follow each other from a style on, and that they are its chain where they end.
pub use Rattle.style_sheet.proofs.ChainLemmas.{chain_front, climbed_none}
-- A style sheet that breaks no rule holds styles.
pub use Rattle.style_sheet.proofs.ExistSheet.{sheet_there}
-- How long what is written is.
pub use Rattle.style_sheet.proofs.LengthLemmas.{char_len, para_len, rest_len, style_len}
-- A style has one chain at most: each of its styles is one of the bases that follow each other from the style on.
pub use Rattle.style_sheet.proofs.OneChainLemmas.{base_chains_agree, next_kind, there}
-- A sheet as it is written is read back.
pub use Rattle.style_sheet.proofs.SheetBackLemmas.{sheet_back}
-- A part holds one sheet at most.
pub use Rattle.style_sheet.proofs.UniqueLemmas.{sheets_agree}
