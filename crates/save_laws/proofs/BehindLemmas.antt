-- The sectors that are added behind a file, by what is counted.
use Rattle.std.proofs.Common.{ℕ, ◌+◌, ◌*◌, ◌≤◌, List, arith}
use Rattle.cfb_sectors.specs.Header.{sector_count, fat_sector_count, valid_below}
use Rattle.cfb_layout.specs.Sectors.{units_for}
use Rattle.cfb_in_place.specs.Change.{added_for, grown_more, sectors_after}
use Rattle.save_laws.specs.SectorCounts.{TwoLengths}
use Rattle.save_laws.specs.FastSizes.{SaveCounts, WrittenLengths, AreWithinCounts, AreAppended, reckoned_bytes}
use Rattle.save_laws.specs.FilesBehind.{AreBehind, SavesBehindAreFew}

-- the sectors after, where the added ones but for the FAT's are reckoned as bytes
few_after : (file : List ℕ) (chain grown table bytes : ℕ) →
    512 * (grown_more chain grown + units_for 512 table) + 9975 ≤ bytes →
    sectors_after file (added_for file chain grown table) ≤ sector_count file + units_for 500 bytes + 8
few_after file chain grown table bytes within =
    let below : valid_below file ≤ sector_count file = omega arith in
    let covered : valid_below file ≤ 128 * fat_sector_count file = omega arith in
    omega (arith, below, covered, within)

-- the sectors that WordDocument gets
grown_few : (chain table : ℕ) (counts : SaveCounts) (written : WrittenLengths) (before after : TwoLengths) →
    AreWithinCounts counts written → AreAppended counts written before after → AreBehind chain table before after →
    512 * grown_more chain after.wd ≤ 2 * counts.units + 512 * counts.runs + 1536 + 512 * counts.sections
grown_few chain table counts written before after counted appended behind =
    let text = counted.text in
    let sepxes = counted.sepxes in
    let wd = appended.wd_is in
    let holds = behind.holds in
    let units = units_for 512 before.wd in
    let text_units = units_for 512 (2 * written.units) in
    let all : after.wd ≤ 512 * (units + text_units + written.pages + counts.sections) = omega (arith, wd, sepxes) in
    let most : units_for 512 after.wd ≤ units + text_units + written.pages + counts.sections = omega (arith, all) in
    let least : units ≤ chain = omega (arith, holds) in
    omega (arith, most, least, text)

pub saves_behind_are_few : SavesBehindAreFew
saves_behind_are_few file chain table counts written before after counted appended behind few =
    let grown = grown_few chain table counts written before after counted appended behind in
    let bins = counted.bins in
    let clx = counted.clx in
    let stream = appended.table_is in
    let filled = behind.filled in
    let prcs : ℕ = (12 + counts.prc_bytes) * counts.pieces in
    let within : 512 * (grown_more chain after.wd + units_for 512 table) + 9975 ≤ reckoned_bytes counts =
    omega (arith, grown, bins, clx, stream, filled) in
    let all = few_after file chain after.wd table (reckoned_bytes counts) within in
    omega (arith, all, few)
