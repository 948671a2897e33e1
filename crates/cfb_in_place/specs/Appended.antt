-- A file after a save in its own sectors, by places: each byte of the old file stays but for those named here. Nothing
-- is walked, and no list of writes is kept.
use Rattle.std.specs.Prelude.{◌≡◌, ◌≢◌, ℕ, ◌+◌, ◌*◌, ◌<◌, ◌≤◌, List, ◌++◌, length, drop, slice_index}
use Rattle.std.specs.List.{flat_map, range_with_len}
use Rattle.doc_bits.specs.Number.{u32_at, zeros}
use Rattle.cfb_sectors.specs.Header.{sector_count, fat_sector_count, fat_sector, fat_sectors, sector_bytes}
use Rattle.cfb_sectors.specs.SectorChain.{HasSector}
use Rattle.cfb_sectors.specs.Header.{sector_len}
use Rattle.cfb_directory.specs.Directory.{entry_start, entry_stream_size}
use Rattle.cfb_directory.specs.Reach.{entry_place, entry_count}
use Rattle.cfb_streams.specs.StreamRules.{Parts}
use Rattle.cfb_layout.specs.Sectors.{padded_to_unit}
use Rattle.cfb_in_place.specs.Change.{StreamChange, grown_bytes, OldChains, Added, fresh_from, fat_from, end_of}
use Rattle.cfb_in_place.specs.Change.{sectors_after}
use Rattle.cfb_in_place.specs.Tables.{ChangesTables}

-- so many bytes from a place on are those of the old file
abbrev pub SameBytes : List ℕ → List ℕ → ℕ → ℕ → Type 0
SameBytes old new at count = (i : ℕ) → i < count → slice_index new (at + i) ≡ slice_index old (at + i)

-- [MS-CFB] Compound File Header: the number of FAT sectors and their list
pub record ChangesHeader (old new : List ℕ) (added : Added) : Type 0 where
  pub len : length new ≡ sector_len * (sectors_after old added + 1)
  pub fat_count : fat_sector_count new ≡ fat_sector_count old + added.fat
  pub fat_list : (k : ℕ) → k < added.fat → fat_sector new (fat_sector_count old + k) ≡ fat_from added + k
  pub front : SameBytes old new 0 44
  pub middle : SameBytes old new 48 (28 + 4 * fat_sector_count old)
  pub rest : (at : ℕ) → 76 + 4 * fat_sector_count new ≤ at → at < sector_len → slice_index new at ≡ slice_index old at

-- [MS-CFB] Directory Entry: the start and the size of an entry, with the upper half of the size
pub record HasStart (file : List ℕ) (at start size : ℕ) : Type 0 where
  pub start_is : entry_start file at ≡ start
  pub size_is : entry_stream_size file at ≡ size
  pub upper : u32_at file (at + 124) ≡ 0

-- the entries of the two streams, and all others
pub record ChangesDirectory (old new directory : List ℕ) (chains : OldChains) (added : Added) (change : StreamChange)
    : Type 0 where
  pub grown : HasStart new (entry_place directory chains.grown_entry) (entry_start old (entry_place directory
      chains.grown_entry)) (length (grown_bytes change chains.bytes))
  pub table : HasStart new (entry_place directory chains.table_entry) (fresh_from added) (length change.table)
  pub front : (k : ℕ) → k < entry_count directory → SameBytes old new (entry_place directory k) 116
  pub others : (k : ℕ) → k < entry_count directory → k ≢ chains.grown_entry → k ≢ chains.table_entry →
      SameBytes old new (entry_place directory k) 128

-- the bytes of sectors, joined
abbrev pub joined : List ℕ → List ℕ → List ℕ
joined file sectors = flat_map (sector_bytes sector_len sector_len file) sectors

-- the sectors of the stream that grows: the old ones and the added ones
abbrev pub chain_after : OldChains → Added → List ℕ
chain_after chains added = chains.grown ++ range_with_len added.from added.grown

-- the sectors in which something may change
pub data IsTouched (old : List ℕ) (parts : Parts) (chains : OldChains) (added : Added) (s : ℕ) : Type 0 where
  in_grown : HasSector chains.grown s → IsTouched old parts chains added s
  in_fat : HasSector (fat_sectors old) s → IsTouched old parts chains added s
  in_mini_fat : HasSector parts.mini_fat s → IsTouched old parts chains added s
  in_directory : HasSector parts.directory s → IsTouched old parts chains added s
  in_added : added.from ≤ s → s < end_of added → IsTouched old parts chains added s

-- the bytes of the two streams; what is behind the one that grows in its last sectors stays, and is zero in added
-- ones
pub record ChangesSectors (old new : List ℕ) (parts : Parts) (chains : OldChains) (added : Added)
    (change : StreamChange) : Type 0 where
  pub grown : joined new (chain_after chains added) ≡ grown_bytes change chains.bytes ++ drop (length
      (grown_bytes change chains.bytes)) (joined old chains.grown ++ zeros (sector_len * added.grown))
  pub table : joined new (range_with_len (fresh_from added) added.fresh) ≡ padded_to_unit sector_len 0 change.table
  pub kept : (s : ℕ) → s < sector_count old → ¬ IsTouched old parts chains added s →
      SameBytes old new ((s + 1) * sector_len) sector_len

-- all of it
pub record IsSavedBehind (old new : List ℕ) (parts : Parts) (chains : OldChains) (added : Added)
    (change : StreamChange) : Type 0 where
  pub header : ChangesHeader old new added
  pub tables : ChangesTables old new parts.mini_fat chains added
  pub directory : ChangesDirectory old new parts.directory chains added change
  pub sectors : ChangesSectors old new parts chains added change
