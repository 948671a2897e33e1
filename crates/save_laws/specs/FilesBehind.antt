-- The sectors of a fast save in the file's own sectors, by what is counted.
use Rattle.std.specs.Prelude.{ℕ, ◌*◌, ◌≤◌, max, List}
use Rattle.cfb_sectors.specs.Header.{sector_count}
use Rattle.cfb_in_place.specs.Change.{added_for, sectors_after}
use Rattle.save_laws.specs.SectorCounts.{TwoLengths}
use Rattle.save_laws.specs.FastSizes.{SaveCounts, WrittenLengths, AreWithinCounts, AreAppended, reckoned_sectors}

-- a chain of so many sectors, which holds the old WordDocument, and a table stream of so many bytes, which is filled up
-- to 4,096 where it is shorter
pub record AreBehind (chain table : ℕ) (before after : TwoLengths) : Type 0 where
  pub holds : before.wd ≤ 512 * chain
  pub filled : table ≤ max 4096 after.table

-- the file has no more sectors than are reckoned, as one that is laid out anew
abbrev pub SavesBehindAreFew : Type 0
SavesBehindAreFew =
    (file : List ℕ) (chain table : ℕ) (counts : SaveCounts) (written : WrittenLengths) (before after : TwoLengths) →
    AreWithinCounts counts written → AreAppended counts written before after → AreBehind chain table before after →
    sector_count file ≤ counts.sectors →
    sectors_after file (added_for file chain after.wd table) ≤ reckoned_sectors counts
