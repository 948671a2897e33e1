-- How many sectors are added.
use Rattle.std.proofs.Common.{ℕ, ◌+◌, ◌*◌, ◌≤◌, List, arith}
use Rattle.cfb_sectors.specs.Header.{sector_count, fat_sector_count, valid_below}
use Rattle.cfb_layout.specs.Sectors.{units_for}
use Rattle.cfb_layout.specs.Counts.{most_sectors}
use Rattle.cfb_in_place.specs.Change.{StreamChange, OldChains, added_sectors, sectors_after, fat_sectors_more}
use Rattle.cfb_in_place.specs.Change.{grown_count, fresh_count}
use Rattle.cfb_in_place.specs.Laws.{IsLeastMore}

pub fat_least : (fat_count sectors : ℕ) → IsLeastMore fat_count sectors (fat_sectors_more fat_count sectors)
fat_least fat_count sectors = record { holds = omega arith; least = λ fewer h. omega arith }

pub fat_fits : (fat_count sectors : ℕ) → fat_count ≤ 109 → sectors + fat_sectors_more fat_count sectors ≤ most_sectors
    → fat_count + fat_sectors_more fat_count sectors ≤ 109
fat_fits fat_count sectors h k = omega arith

pub reckoned : (file : List ℕ) (chains : OldChains) (change : StreamChange) (bytes : ℕ) → 512 * (grown_count chains
    change + fresh_count change) + 9975 ≤ bytes → sectors_after file (added_sectors file chains change) ≤
    sector_count file + units_for 500 bytes + 8
unfolding added_sectors
reckoned file chains change bytes h =
    let below : valid_below file ≤ sector_count file = omega arith in
    let covered : valid_below file ≤ 128 * fat_sector_count file = omega arith in
    omega arith
