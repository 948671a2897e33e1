-- What other crates may cite of these proofs.

-- A file that is accepted names no place of Data, so no row of its document gets cells.
pub use Rattle.huge_papx.proofs.NoneLemmas.{struck_defined_none}
-- A document is struck, and its rows get their cells, in one way.
pub use Rattle.huge_papx.proofs.OneLemmas.{struck_defined_one}
-- What a text whose rows got their cells keeps.
pub use Rattle.huge_papx.proofs.TextLemmas.{struck_defined_formed, struck_defined_units}
