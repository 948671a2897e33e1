-- [MS-CFB] Sector chains, as relations on finished lists. `entry` is the table of entries, that of the FAT or of the
-- mini FAT, and the numbers below `valid` are its valid sector numbers. No list is walked here, and none is cut.
use Rattle.std.specs.Prelude.{◌≡◌, ◌≢◌, ◌⊎◌, ℕ, ◌+◌, ◌-◌, ◌<◌, ◌≤◌, List, length, slice_index}

-- ENDOFCHAIN
abbrev pub end_of_chain : ℕ
end_of_chain = 0xFFFF_FFFE

-- the last number of a list
abbrev pub last_of : List ℕ → ℕ
last_of sectors = slice_index sectors (length sectors - 1)

-- the number is in the list
pub record HasSector (sectors : List ℕ) (sector : ℕ) : Type 0 where
  pub index : ℕ
  pub inside : index < length sectors
  pub here : slice_index sectors index ≡ sector

-- valid sectors in a row, none there twice: the entry of each but the last names the next
pub record IsSectorPath (entry : ℕ → ℕ) (valid start : ℕ) (sectors : List ℕ) : Type 0 where
  pub some : 0 < length sectors
  pub first : slice_index sectors 0 ≡ start
  pub within : (i : ℕ) → i < length sectors → slice_index sectors i < valid
  pub distinct : (i j : ℕ) → i < j → j < length sectors → slice_index sectors i ≢ slice_index sectors j
  pub links : (i : ℕ) → i + 1 < length sectors → entry (slice_index sectors i) ≡ slice_index sectors (i + 1)

-- a chain: the entry of the last sector is ENDOFCHAIN
pub record IsSectorChain (entry : ℕ → ℕ) (valid start : ℕ) (sectors : List ℕ) : Type 0 where
  pub path : IsSectorPath entry valid start sectors
  pub ends : entry (last_of sectors) ≡ end_of_chain

-- a path that cannot go on: the entry of its last sector is not valid, or names a sector that it has
pub record IsFullPath (entry : ℕ → ℕ) (valid start : ℕ) (sectors : List ℕ) : Type 0 where
  pub path : IsSectorPath entry valid start sectors
  pub stops : (valid ≤ entry (last_of sectors)) ⊎ HasSector sectors (entry (last_of sectors))
