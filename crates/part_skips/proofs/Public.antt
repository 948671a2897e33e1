-- What other crates may cite of these proofs.

-- A style sheet and the Prcs of a Clx are skipped in one way.
pub use Rattle.part_skips.proofs.OneLemmas.{prcs_length, puts_prcs_one, puts_sheet_one}
-- The Prcs of a Clx, skipped one after the other.
pub use Rattle.part_skips.proofs.PrcLemmas.{clx_skips, made_sizes, prc_before}
-- A style sheet whose lists are skipped breaks none of the rules 49 to 51 where the sheet breaks none.
pub use Rattle.part_skips.proofs.RuleLemmas.{sheet_holds}
-- The slots of a sheet, skipped one after the other.
pub use Rattle.part_skips.proofs.SheetLemmas.{sheet_skips}
