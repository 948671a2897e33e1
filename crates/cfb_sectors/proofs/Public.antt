-- What other crates may cite of these proofs.

-- Paths and chains of sectors: the walk's step, its length, and that there is one path from a start.
pub use Rattle.cfb_sectors.proofs.ChainLemmas.{chain_full, full_unique, length_pushed, path_short, pushed_before}
pub use Rattle.cfb_sectors.proofs.ChainLemmas.{pushed_last}
-- Owners that take the sectors of whole chains, walked as far as they are not marked.
pub use Rattle.cfb_sectors.proofs.ClaimLemmas.{chain_closed, closed_none, takes_closed, takes_same, whole_chain}
-- The FAT sectors of a file that breaks none of the rules 1 to 5.
pub use Rattle.cfb_sectors.proofs.FatLemmas.{fat_apart, fat_few, fat_inside, fat_sectors-at, fat_valid}
pub use Rattle.cfb_sectors.proofs.FatLemmas.{length-fat_sectors}
-- A chain is whole or broken at one place.
pub use Rattle.cfb_sectors.proofs.JudgeLemmas.{holds_none, holds_unique}
-- A file whose length breaks no rule.
pub use Rattle.cfb_sectors.proofs.OpeningLemmas.{whole_length}
-- The sectors of a chain, joined and cut.
pub use Rattle.cfb_sectors.proofs.StreamLemmas.{length-cut, length-joined, length-sector, length_all}
-- Paths, walks and ends by the entries that are kept of a table, and rules that are refused.
pub use Rattle.cfb_sectors.proofs.TableLemmas.{none_nowhere, refused_chain, refused_first}
