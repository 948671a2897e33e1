-- A chain that is checked: the table that it goes by, what says where it starts, and where it is broken.
use Rattle.std.specs.Prelude.{◌≡◌, ◌≢◌, ◌⊎◌, ℕ, ◌+◌, ◌*◌, ◌^◌, ◌<◌, ◌≤◌, min, List, length, slice_index}
use Rattle.doc_bits.specs.Number.{u32_at}
use Rattle.cfb_sectors.specs.Header.{sector_len, mini_sectors_in, table_place, fat_sectors, valid_below}
use Rattle.cfb_sectors.specs.SectorChain.{IsSectorChain, IsFullPath, last_of, end_of_chain}

-- the FAT or the mini FAT: the entry of a sector, where that entry is, and the number below which sectors are valid
pub record Table : Type 0 where
  pub entry : ℕ → ℕ
  pub place : ℕ → ℕ
  pub valid : ℕ

-- where the field with the start is, the start, the bytes of a sector, and the bytes that the chain must hold
pub record ChainHead : Type 0 where
  pub field : ℕ
  pub start : ℕ
  pub unit : ℕ
  pub size : ℕ

-- the table that is in these sectors
abbrev pub table_of : List ℕ → List ℕ → ℕ → Table
table_of file sectors valid = record {
  entry = λ s. u32_at file (table_place (λ k. slice_index sectors k) s);
  place = table_place (λ k. slice_index sectors k);
  valid = valid;
}

abbrev pub fat_table : List ℕ → Table
fat_table file = table_of file (fat_sectors file) (valid_below file)

-- Profile: a mini sector is valid where it has an entry and begins before the end of the root's size
abbrev pub mini_table : List ℕ → List ℕ → ℕ → Table
mini_table file mini_fat size = table_of file mini_fat (min (128 * length mini_fat) (mini_sectors_in size))

-- sectors that are in a file of less than 2^32 bytes; there are fewer than 2^24 of them
pub record AreSectorsOf (file sectors : List ℕ) : Type 0 where
  pub short : length file < 2 ^ 32
  pub few : length sectors < 2 ^ 24
  pub inside : (i : ℕ) → i < length sectors → (slice_index sectors i + 2) * sector_len ≤ length file

-- the entries of the table that is in these sectors
pub record IsTable (file sectors entries : List ℕ) : Type 0 where
  pub len : length entries ≡ 128 * length sectors
  pub each : (s : ℕ) → s < length entries →
      slice_index entries s ≡ u32_at file (table_place (λ k. slice_index sectors k) s)

-- a whole chain of enough sectors; ENDOFCHAIN is no valid sector number
pub record HoldsChain (table : Table) (head : ChainHead) (sectors : List ℕ) : Type 0 where
  pub range : table.valid ≤ end_of_chain
  pub chain : IsSectorChain table.entry table.valid head.start sectors
  pub enough : head.size ≤ length sectors * head.unit

-- the start is not valid
pub record BreaksAtStart (table : Table) (head : ChainHead) (place : ℕ) : Type 0 where
  pub here : place ≡ head.field
  pub wrong : table.valid ≤ head.start

-- the entry of the last sector that is reached is neither valid nor ENDOFCHAIN, names a sector that the chain has, or
-- ends it too early
pub record BreaksOnTheWay (table : Table) (head : ChainHead) (place : ℕ) : Type 0 where
  pub sectors : List ℕ
  pub full : IsFullPath table.entry table.valid head.start sectors
  pub wrong : (table.entry (last_of sectors) ≢ end_of_chain) ⊎ (length sectors * head.unit < head.size)
  pub here : place ≡ table.place (last_of sectors)

abbrev pub BreaksChain : Table → ChainHead → ℕ → Type 0
BreaksChain table head place = BreaksAtStart table head place ⊎ BreaksOnTheWay table head place
