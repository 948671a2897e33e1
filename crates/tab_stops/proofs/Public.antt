-- What other crates may cite of these proofs.

-- The changes of tab stops are in one list of places.
pub use Rattle.tab_stops.proofs.OneLemmas.{clx_one, pages_one, sheet_one}
-- The slots of a sheet, and the list of a style.
pub use Rattle.tab_stops.proofs.SheetLemmas.{next_slot}
