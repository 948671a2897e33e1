-- How many sectors the canonical container takes, as a function of the lengths of its streams alone. Each stream has a
-- large part, in sectors, and a small part, in mini sectors; one of the two is empty.
use Rattle.std.specs.Prelude.{◌≤◌, ℕ, ◌+◌, ◌*◌, List, [], ◌∷◌, ◌++◌, length, map, sum, nat_lt, if◌then◌else◌}
use Rattle.std.specs.Prelude.{slice_index}
use Rattle.cfb_sectors.specs.SectorChain.{end_of_chain}
use Rattle.cfb_sectors.specs.Header.{sector_len, mini_sector_len}
use Rattle.cfb_layout.specs.Sectors.{units_for, chain_start}

abbrev pub large_len : ℕ → ℕ
large_len len = if nat_lt len 4096 then 0 else len

abbrev pub small_len : ℕ → ℕ
small_len len = if nat_lt len 4096 then len else 0

-- the mini sectors of each stream
unfoldable pub mini_counts : List ℕ → List ℕ
mini_counts lengths = map (λ len. units_for mini_sector_len (small_len len)) lengths

-- the sectors that each stream has of its own
unfoldable pub large_counts : List ℕ → List ℕ
large_counts lengths = map (λ len. units_for sector_len (large_len len)) lengths

-- the sectors of each part: the streams, the mini stream, the mini FAT and the directory
unfoldable pub sector_counts : List ℕ → List ℕ
sector_counts lengths =
    large_counts lengths
    ++ (units_for sector_len (mini_sector_len * sum (mini_counts lengths))
    ∷ (units_for 128 (sum (mini_counts lengths)) ∷ (units_for 4 (length lengths + 1) ∷ [])))

-- the sectors of the FAT
abbrev pub fat_count : List ℕ → ℕ
fat_count lengths = units_for 127 (sum (sector_counts lengths))

-- all sectors after the header
unfoldable pub sectors_needed : List ℕ → ℕ
sectors_needed lengths = sum (sector_counts lengths) + fat_count lengths

-- the sectors that 109 FAT sectors can name at most
abbrev pub most_sectors : ℕ
most_sectors = 13952

abbrev pub Fits : List ℕ → Type 0
Fits lengths = sectors_needed lengths ≤ most_sectors

-- the start of the i-th part, where it has a sector
abbrev pub first_sector : List ℕ → ℕ → ℕ
first_sector counts i = if nat_lt 0 (slice_index counts i) then chain_start counts i else end_of_chain

-- the start of a stream, by the FAT or by the mini FAT
abbrev pub stream_start : List ℕ → ℕ → ℕ
stream_start lengths i =
    if nat_lt (slice_index lengths i) 4096 then first_sector (mini_counts lengths) i else first_sector (sector_counts
    lengths) i
