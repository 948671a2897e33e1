-- The mini FAT, the mini stream and the streams: their chains, and the sectors that two of them have.
use Rattle.std.specs.Prelude.{◌≡◌, ◌≢◌, ◌⊎◌, ℕ, List, []}
use Rattle.doc_bits.specs.Number.{u32_at}
use Rattle.cfb_sectors.specs.Header.{sector_len, mini_sector_len, fat_sectors}
use Rattle.cfb_sectors.specs.SectorChain.{HasSector}
use Rattle.cfb_sectors.specs.Chain.{Table, ChainHead, fat_table, mini_table, HoldsChain, BreaksChain}
use Rattle.cfb_directory.specs.Directory.{entry_stream_size}
use Rattle.cfb_directory.specs.Reach.{entry_place, AmongReached}
use Rattle.cfb_directory.specs.StreamEntries.{IsLargeStream, IsSmallStream, stream_head}

abbrev pub mini_fat_head : List ℕ → ChainHead
mini_fat_head file = record { field = 60; start = u32_at file 60; unit = sector_len; size = 0 }

-- rule 11; there is no mini FAT where the number of its sectors is 0
pub record BreaksMiniFat (file : List ℕ) (place : ℕ) : Type 0 where
  pub there : u32_at file 64 ≢ 0
  pub broken : BreaksChain (fat_table file) (mini_fat_head file) place

-- the sectors of the mini FAT
abbrev pub IsMiniFat : List ℕ → List ℕ → Type 0
IsMiniFat file sectors =
    ((u32_at file 64 ≡ 0) × (sectors ≡ [])) ⊎ ((u32_at file 64 ≢ 0) × HoldsChain (fat_table file) (mini_fat_head file)
    sectors)

-- rule 12; Profile: the chain of an empty mini stream is not looked at
pub record BreaksMiniStream (file directory : List ℕ) (place : ℕ) : Type 0 where
  pub there : entry_stream_size file (entry_place directory 0) ≢ 0
  pub broken : BreaksChain (fat_table file) (stream_head file sector_len (entry_place directory 0)) place

-- the sectors of the mini stream, which is the root's chain
abbrev pub IsMiniStream : List ℕ → List ℕ → List ℕ → Type 0
IsMiniStream file directory sectors =
    ((entry_stream_size file (entry_place directory 0) ≡ 0) × (sectors ≡ []))
    ⊎ ((entry_stream_size file (entry_place directory 0) ≢ 0) × HoldsChain (fat_table file)
    (stream_head file sector_len (entry_place directory 0)) sectors)

-- the mini FAT by which the file's short streams go
abbrev pub mini_table_of : List ℕ → List ℕ → List ℕ → Table
mini_table_of file directory mini_fat = mini_table file mini_fat (entry_stream_size file (entry_place directory 0))

-- the chain of a stream's entry is broken
pub record IsWrongLarge (file directory : List ℕ) (entry place : ℕ) : Type 0 where
  pub is_large : IsLargeStream file directory entry
  pub broken : BreaksChain (fat_table file) (stream_head file sector_len (entry_place directory entry)) place

pub record IsWrongSmall (file directory mini_fat : List ℕ) (entry place : ℕ) : Type 0 where
  pub is_small : IsSmallStream file directory entry
  pub broken : BreaksChain (mini_table_of file directory mini_fat) (stream_head file mini_sector_len
      (entry_place directory entry)) place

abbrev pub IsWrongStream : List ℕ → List ℕ → List ℕ → ℕ → ℕ → Type 0
IsWrongStream file directory mini_fat entry place = IsWrongLarge file directory entry place ⊎ IsWrongSmall file
    directory mini_fat entry place

-- rule 13
abbrev pub BreaksStream : List ℕ → List ℕ → List ℕ → ℕ → Type 0
BreaksStream file directory mini_fat = AmongReached file directory (IsWrongStream file directory mini_fat)

-- what has sectors of the file; a stream goes by its entry
pub data Owner : Type 0 where
  of_fat : Owner
  of_directory : Owner
  of_mini_fat : Owner
  of_mini_stream : Owner
  of_stream : ℕ → Owner

-- the sector is one of the stream's, which may have more than it needs
pub record HasLargeSector (file directory : List ℕ) (entry sector : ℕ) : Type 0 where
  pub is_large : IsLargeStream file directory entry
  pub sectors : List ℕ
  pub holds : HoldsChain (fat_table file) (stream_head file sector_len (entry_place directory entry)) sectors
  pub has : HasSector sectors sector

pub record HasSmallSector (file directory mini_fat : List ℕ) (entry sector : ℕ) : Type 0 where
  pub is_small : IsSmallStream file directory entry
  pub sectors : List ℕ
  pub holds : HoldsChain (mini_table_of file directory mini_fat) (stream_head file mini_sector_len
      (entry_place directory entry)) sectors
  pub has : HasSector sectors sector

-- the sectors of the directory, of the mini FAT and of the mini stream
pub record Parts : Type 0 where
  pub directory : List ℕ
  pub mini_fat : List ℕ
  pub mini_stream : List ℕ

abbrev pub Owns : List ℕ → Parts → Owner → ℕ → Type 0
Owns file parts of_fat sector = HasSector (fat_sectors file) sector
Owns file parts of_directory sector = HasSector parts.directory sector
Owns file parts of_mini_fat sector = HasSector parts.mini_fat sector
Owns file parts of_mini_stream sector = HasSector parts.mini_stream sector
Owns file parts (of_stream entry) sector = HasLargeSector file parts.directory entry sector

-- a sector that two have, at its place in the table
pub record IsSharedSector {A : Type 0} (owns : A → ℕ → Type 0) (place_of : ℕ → ℕ) (place : ℕ) : Type 0 where
  pub one : A
  pub other : A
  pub apart : one ≢ other
  pub sector : ℕ
  pub first : owns one sector
  pub second : owns other sector
  pub here : place ≡ place_of sector

-- rule 14: sectors of the file, and mini sectors
abbrev pub BreaksSharing : List ℕ → Parts → ℕ → Type 0
BreaksSharing file parts place =
    IsSharedSector (Owns file parts) (fat_table file).place place
    ⊎ IsSharedSector (HasSmallSector file parts.directory parts.mini_fat)
    (mini_table_of file parts.directory parts.mini_fat).place place
