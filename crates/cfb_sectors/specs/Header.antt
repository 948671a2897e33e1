-- [MS-CFB] Compound File Header of version 3, by the offsets of its fields, and the FAT that it names. Sector n is
-- at n + 1 times its length in the file.
use Rattle.std.specs.Prelude.{ℕ, ◌+◌, ◌-◌, ◌*◌, ◌/◌, ◌%◌, min, map, List, length, slice_range}
use Rattle.std.specs.List.{range_with_len}
use Rattle.doc_bits.specs.Number.{u32_at}

-- the bytes of a sector, and of the header
abbrev pub sector_len : ℕ
sector_len = 512

-- the bytes of a mini sector
abbrev pub mini_sector_len : ℕ
mini_sector_len = 64

-- the mini sectors that so many bytes begin in
abbrev pub mini_sectors_in : ℕ → ℕ
mini_sectors_in size = (size + (mini_sector_len - 1)) / mini_sector_len

-- how many sectors are after the header
abbrev pub sector_count : List ℕ → ℕ
sector_count file = length file / sector_len - 1

-- the number of FAT sectors
abbrev pub fat_sector_count : List ℕ → ℕ
fat_sector_count file = u32_at file 44

-- the number of the k-th FAT sector, one of the 109 in the header
abbrev pub fat_sector : List ℕ → ℕ → ℕ
fat_sector file k = u32_at file (76 + 4 * k)

-- a table of 32-bit entries that is in sectors, 128 of them in each: where entry s is
abbrev pub table_place : (ℕ → ℕ) → ℕ → ℕ
table_place sector_of s = (sector_of (s / 128) + 1) * sector_len + 4 * (s % 128)

-- the numbers of the FAT sectors
unfoldable pub fat_sectors : List ℕ → List ℕ
fat_sectors file = map (fat_sector file) (range_with_len 0 (fat_sector_count file))

-- Profile: the sector numbers below it are valid; they are in the file and have a FAT entry
abbrev pub valid_below : List ℕ → ℕ
valid_below file = min (sector_count file) (128 * fat_sector_count file)

-- sector n of sectors of `unit` bytes that are from `base` on
abbrev pub sector_bytes : ℕ → ℕ → List ℕ → ℕ → List ℕ
sector_bytes base unit bytes sector = slice_range bytes (base + sector * unit) (base + sector * unit + unit)
