-- All that is needed of the canonical container to read it, at offsets of the file. What is read of it is shown from
-- this record, and the canonical container is shown to be such a file.
use Rattle.std.proofs.Common.{◌≡◌, ℕ, ◌+◌, ◌*◌, ◌<◌, List, length, take, slice_index, slice_index_or, sum}
use Rattle.doc_bits.specs.Number.{u16_at, u32_at}
use Rattle.cfb_sectors.specs.Opening.{signature}
use Rattle.cfb_streams.specs.Contents.{NamedBytes}
use Rattle.cfb_directory.specs.Directory.{entry_name_length, entry_unit, entry_type, entry_left, entry_right}
use Rattle.cfb_directory.specs.Directory.{entry_child, entry_clsid, entry_start, entry_stream_size}
use Rattle.cfb_layout.specs.Sectors.{chains_from, chain_start}
use Rattle.cfb_layout.specs.Counts.{mini_counts, sector_counts, fat_count, sectors_needed, first_sector}
use Rattle.cfb_layout.specs.Entries.{Entry}
use Rattle.cfb_layout.specs.Layout.{lengths_of, large_part, mini_stream, directory_entry, no_stream}

-- the entry is at the offset
pub record IsEntryAt (file : List ℕ) (entry : Entry) (at : ℕ) : Type 0 where
  pub units : (i : ℕ) → i < length entry.name → entry_unit file at i ≡ slice_index entry.name i
  pub long : entry_name_length file at ≡ entry.fields.name_length
  pub kind : entry_type file at ≡ entry.fields.kind
  pub left : entry_left file at ≡ entry.fields.left
  pub right : entry_right file at ≡ entry.fields.right
  pub child : entry_child file at ≡ entry.fields.child
  pub clsid : entry_clsid file at ≡ entry.clsid
  pub start : entry_start file at ≡ entry.fields.start
  pub size : entry_stream_size file at ≡ entry.fields.size

-- where the i-th part is
abbrev pub part_place : List ℕ → ℕ → ℕ
part_place counts i = 512 * (1 + chain_start counts i)

-- the header
pub record IsHeaderOf (file lengths : List ℕ) : Type 0 where
  pub len : length file ≡ 512 * (1 + sectors_needed lengths)
  pub signed : take 8 file ≡ signature
  pub version : u16_at file 26 ≡ 3
  pub order : u16_at file 28 ≡ 0xFFFE
  pub shift : u16_at file 30 ≡ 9
  pub mini_shift : u16_at file 32 ≡ 6
  pub fats : u32_at file 44 ≡ fat_count lengths
  pub directory : u32_at file 48 ≡ first_sector (sector_counts lengths) (length lengths + 2)
  pub cutoff : u32_at file 56 ≡ 4096
  pub mini_fat : u32_at file 60 ≡ first_sector (sector_counts lengths) (length lengths + 1)
  pub mini_fats : u32_at file 64 ≡ slice_index (sector_counts lengths) (length lengths + 1)
  pub difats : u32_at file 72 ≡ 0
  pub fat_list : (k : ℕ) → k < fat_count lengths → u32_at file (76 + 4 * k) ≡ sum (sector_counts lengths) + k

-- the FAT's entries and the mini FAT's
pub record HasTables (file lengths : List ℕ) : Type 0 where
  pub fat : (s : ℕ) → s < sum (sector_counts lengths) → u32_at file (512 * (1 + sum (sector_counts lengths)) + 4 * s)
      ≡ slice_index (chains_from 0 (sector_counts lengths)) s
  pub mini_fat : (s : ℕ) → s < sum (mini_counts lengths) → u32_at file (part_place (sector_counts lengths)
      (length lengths + 1) + 4 * s) ≡ slice_index (chains_from 0 (mini_counts lengths)) s

pub record IsImage (file : List ℕ) (streams : List NamedBytes) (clsid : List ℕ) : Type 0 where
  pub header : IsHeaderOf file (lengths_of streams)
  pub tables : HasTables file (lengths_of streams)
  pub entries : (k : ℕ) → k < 4 * slice_index (sector_counts (lengths_of streams)) (length (lengths_of streams) + 2) →
      IsEntryAt file (directory_entry streams clsid k) (part_place (sector_counts (lengths_of streams))
      (length (lengths_of streams) + 2) + 128 * k)
  pub large : (i x : ℕ) → i < length streams → x < length (large_part (slice_index_or streams i no_stream).bytes) →
      slice_index file (part_place (sector_counts (lengths_of streams)) i + x) ≡ slice_index (slice_index_or streams i
      no_stream).bytes x
  pub small : (x : ℕ) → x < length (mini_stream streams) → slice_index file (part_place (sector_counts
      (lengths_of streams)) (length (lengths_of streams)) + x) ≡ slice_index (mini_stream streams) x
