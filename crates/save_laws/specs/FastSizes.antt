-- The bounds of a fast save, by numbers alone: what is counted of a session, and how long the two streams then are.
use Rattle.std.specs.Prelude.{ℕ, ◌+◌, ◌*◌, ◌≤◌, length}
use Rattle.prop_map.specs.Settings.{Properties}
use Rattle.prop_map.specs.Printing.{printed_list}
use Rattle.cfb_layout.specs.Sectors.{units_for}
use Rattle.full_save.specs.Sections.{sepx_bytes}
use Rattle.save_laws.specs.SectorCounts.{TwoLengths, GrowBy}

-- what is counted: pieces and the bytes that the Prc of one may need; units, runs and sections since the last save; the
-- bytes of the table stream of a full save; the sectors of the file and the bytes of its two bin tables
pub record SaveCounts : Type 0 where
  pub pieces : ℕ
  pub prc_bytes : ℕ
  pub units : ℕ
  pub runs : ℕ
  pub sections : ℕ
  pub table_bytes : ℕ
  pub sectors : ℕ
  pub bin_bytes : ℕ

-- Profile: the bytes that are reckoned for a fast save
abbrev pub reckoned_bytes : SaveCounts → ℕ
reckoned_bytes counts =
    2 * counts.units
    + 528 * counts.runs
    + 512 * counts.sections
    + (12 + counts.prc_bytes) * counts.pieces
    + counts.table_bytes
    + counts.bin_bytes
    + 16384

-- Profile: the sectors that are reckoned for its file
abbrev pub reckoned_sectors : SaveCounts → ℕ
reckoned_sectors counts = counts.sectors + units_for 500 (reckoned_bytes counts) + 8

-- what is written: units of two bytes, pages of both kinds, the bytes of Sepxes, of the two bin tables and of the Clx
pub record WrittenLengths : Type 0 where
  pub units : ℕ
  pub pages : ℕ
  pub sepx_bytes : ℕ
  pub bin_bytes : ℕ
  pub clx_bytes : ℕ

-- it is within what is counted, where units are whole pages: bytes that are left of those for runs may serve for units
-- that are not counted, as those of the marks behind stories, or that are written again
pub record AreWithinCounts (counts : SaveCounts) (written : WrittenLengths) : Type 0 where
  pub text :
      512 * units_for 512 (2 * written.units) + 512 * written.pages ≤ 2 * counts.units + 512 * counts.runs + 1536
  pub sepxes : written.sepx_bytes ≤ 512 * counts.sections
  pub bins : written.bin_bytes ≤ counts.bin_bytes + 16 * counts.runs + 256
  pub clx : written.clx_bytes ≤ (12 + counts.prc_bytes) * counts.pieces + 9

-- the units begin at the next page behind the old WordDocument, the pages and then the Sepxes at the next one behind
-- the units; the table stream is that of the full save, but for the bin tables and the Clx
pub record AreAppended (counts : SaveCounts) (written : WrittenLengths) (before after : TwoLengths) : Type 0 where
  pub wd_is :
      after.wd
      ≤ 512 * units_for 512 before.wd
      + 512 * units_for 512 (2 * written.units)
      + 512 * written.pages
      + written.sepx_bytes
  pub table_is : after.table ≤ counts.table_bytes + written.bin_bytes + written.clx_bytes

-- the bounds: of WordDocument, of the table stream, of the bin tables, and of both streams together
pub record AreBounded (counts : SaveCounts) (written : WrittenLengths) (before after : TwoLengths) : Type 0 where
  pub wd_is : after.wd ≤ before.wd + 2048 + 2 * counts.units + 512 * counts.runs + 512 * counts.sections
  pub table_is :
      after.table
      ≤ counts.table_bytes
      + counts.bin_bytes
      + (12 + counts.prc_bytes) * counts.pieces
      + 16 * counts.runs
      + 4096
  pub bins : written.bin_bytes ≤ counts.bin_bytes + 16 * counts.runs + 256
  pub grown : GrowBy (reckoned_bytes counts) before after

-- what is counted bounds the two streams
abbrev pub CountsBoundStreams : Type 0
CountsBoundStreams =
    (counts : SaveCounts) (written : WrittenLengths) (before after : TwoLengths) → AreWithinCounts counts written →
    AreAppended counts written before after → AreBounded counts written before after

-- the Sepx of properties that are printed in 500 bytes, with the zero behind it
abbrev pub SepxIsShort : Type 0
SepxIsShort = (properties : Properties) → length (printed_list properties) ≤ 500 → length (sepx_bytes properties) ≤ 503
