-- The rules of the header and of the FAT sectors that it names.
use Rattle.std.specs.Prelude.{◌≡◌, ◌≢◌, ◌⊎◌, ℕ, ◌+◌, ◌*◌, ◌<◌, ◌≤◌, List}
use Rattle.doc_bits.specs.Number.{u16_at, u32_at}
use Rattle.doc_bits.specs.Rules.{Rules, rule, ◌then◌, Among}
use Rattle.cfb_sectors.specs.Header.{fat_sector_count, fat_sector, valid_below}

-- the 16-bit field at the offset is another number
abbrev pub IsOther16 : List ℕ → ℕ → ℕ → ℕ → Type 0
IsOther16 file at value place = (place ≡ at) × (u16_at file at ≢ value)

abbrev pub IsOther32 : List ℕ → ℕ → ℕ → ℕ → Type 0
IsOther32 file at value place = (place ≡ at) × (u32_at file at ≢ value)

-- rule 3: major version 3, the byte order, sectors of 512 and of 64 bytes, a cutoff of 4,096
abbrev pub BreaksHeader : List ℕ → ℕ → Type 0
BreaksHeader file place =
    IsOther16 file 26 3
    place ⊎ (IsOther16 file 28 0xFFFE
    place ⊎ (IsOther16 file 30 9 place ⊎ (IsOther16 file 32 6 place ⊎ IsOther32 file 56 4096 place)))

-- the number of a FAT sector is there already
pub record IsListedBefore (file : List ℕ) (k : ℕ) : Type 0 where
  pub earlier : ℕ
  pub below : earlier < k
  pub same : fat_sector file earlier ≡ fat_sector file k

-- the k-th number of a FAT sector is wrong
pub record BreaksFatSector (file : List ℕ) (k place : ℕ) : Type 0 where
  pub here : place ≡ 76 + 4 * k
  pub wrong : (valid_below file ≤ fat_sector file k) ⊎ IsListedBefore file k

-- rule 5: 1 to 109 FAT sectors, valid ones, none of them twice
abbrev pub BreaksFat : List ℕ → ℕ → Type 0
BreaksFat file place =
    ((place ≡ 44) × ((fat_sector_count file ≡ 0) ⊎ (109 < fat_sector_count file))) ⊎ Among (fat_sector_count file)
    (BreaksFatSector file) place

abbrev pub header_rules : List ℕ → Rules ℕ
header_rules file = rule 3 (BreaksHeader file) then rule 4 (IsOther32 file 72 0) then rule 5 (BreaksFat file)
