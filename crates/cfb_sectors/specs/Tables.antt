-- What the code keeps of the FAT and of the mini FAT.
use Rattle.std.specs.Prelude.{ℕ, ◌^◌, ◌<◌, ◌≤◌, List, length, slice_index}
use Rattle.cfb_sectors.specs.Header.{fat_sectors, valid_below}
use Rattle.cfb_sectors.specs.Chain.{Table, table_of, AreSectorsOf, IsTable}
use Rattle.cfb_sectors.specs.Ends.{KnownEnds, Remembers}

-- the sectors of a file in which a table is, and the number below which the sectors are valid that it speaks of
pub record TablePlace : Type 0 where
  pub file : List ℕ
  pub sectors : List ℕ
  pub valid : ℕ

-- the table that is there
abbrev pub table_at : TablePlace → Table
table_at place = table_of place.file place.sectors place.valid

-- the file's FAT
abbrev pub fat_place : List ℕ → TablePlace
fat_place file = record { file = file; sectors = fat_sectors file; valid = valid_below file }

-- the entries that are kept of a table
pub record IsKeptTable (file sectors entries : List ℕ) (valid : ℕ) : Type 0 where
  pub inside : AreSectorsOf file sectors
  pub is_table : IsTable file sectors entries
  pub room : valid ≤ length entries
  pub few : valid < 2 ^ 31

-- the ends of paths that are remembered with them
pub record RemembersTable (file sectors entries : List ℕ) (valid : ℕ) (known : KnownEnds) : Type 0 where
  pub kept : IsKeptTable file sectors entries valid
  pub remembers : Remembers (λ s. slice_index entries s) valid known
