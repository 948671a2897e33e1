-- Bytes in whole sectors, and chains of sectors that are in a row: one word for the FAT and the mini FAT.
use Rattle.std.specs.Prelude.{ℕ, zero, suc, ◌+◌, ◌-◌, ◌*◌, ◌/◌, List, [], ◌∷◌, ◌++◌, length, take, replicate, sum}
use Rattle.std.specs.List.{flat_map, range_with_len}
use Rattle.doc_bits.specs.Number.{number_bytes}
use Rattle.cfb_sectors.specs.SectorChain.{end_of_chain}

-- FREESECT: the entry of a sector that nobody has
abbrev pub free_sector : ℕ
free_sector = 0xFFFF_FFFF

-- FATSECT: the entry of a sector of the FAT
abbrev pub fat_sector_mark : ℕ
fat_sector_mark = 0xFFFF_FFFD

-- how many parts of `unit` hold so much
abbrev pub units_for : ℕ → ℕ → ℕ
units_for unit size = (size + (unit - 1)) / unit

-- a list that is filled up to a length
unfoldable pub filled : ℕ → ℕ → List ℕ → List ℕ
filled len filler xs = xs ++ replicate (len - length xs) filler

-- a list that is filled up to whole parts of `unit`
unfoldable pub padded_to_unit : ℕ → ℕ → List ℕ → List ℕ
padded_to_unit unit filler xs = xs ++ replicate (units_for unit (length xs) * unit - length xs) filler

-- the entries of a chain of sectors that are in a row from `start` on: each names the next, and the last ends the
-- chain
abbrev pub chain_entries : ℕ → ℕ → List ℕ
chain_entries start zero = []
chain_entries start (suc more) = range_with_len (start + 1) more ++ end_of_chain ∷ []

-- the entries of such chains, one after another, that have these counts of sectors
unfoldable pub chains_from : ℕ → List ℕ → List ℕ
chains_from start [] = []
chains_from start (count ∷ counts) = chain_entries start count ++ chains_from (start + count) counts

-- where the i-th of such chains starts
abbrev pub chain_start : List ℕ → ℕ → ℕ
chain_start counts i = sum (take i counts)

-- the bytes of a FAT or a mini FAT: 128 entries in each sector
abbrev pub table_bytes : List ℕ → List ℕ
table_bytes entries = flat_map (number_bytes 4) (padded_to_unit 128 free_sector entries)
