-- The directory's entries, those that the root reaches, and the rules of their links, types and names.
use Rattle.std.specs.Prelude.{◌≡◌, ◌≢◌, ◌⊎◌, ℕ, ◌+◌, ◌*◌, ◌/◌, ◌%◌, ◌<◌, ◌≤◌, List, length, slice_index}
use Rattle.doc_bits.specs.Number.{u32_at}
use Rattle.cfb_sectors.specs.SectorChain.{HasSector, IsFullPath}
use Rattle.cfb_sectors.specs.Chain.{ChainHead, fat_table, HoldsChain, BreaksChain}
use Rattle.cfb_sectors.specs.Header.{sector_len}
use Rattle.cfb_directory.specs.Directory.{entry_left, entry_right, entry_child, entry_type, entry_name_length}
use Rattle.cfb_directory.specs.Directory.{no_stream_entry}
use Rattle.cfb_directory.specs.Directory.{HaveOneName}

-- the chain of the directory starts at the number at 48
abbrev pub directory_head : List ℕ → ChainHead
directory_head file = record { field = 48; start = u32_at file 48; unit = sector_len; size = 0 }

-- the path from the directory's start has more than 256 sectors
pub record IsLongDirectory (file : List ℕ) (place : ℕ) : Type 0 where
  pub here : place ≡ 48
  pub sectors : List ℕ
  pub full : IsFullPath (fat_table file).entry (fat_table file).valid (u32_at file 48) sectors
  pub long : 256 < length sectors

-- rule 6: a chain of 1 to 256 sectors
abbrev pub BreaksDirectory : List ℕ → ℕ → Type 0
BreaksDirectory file place = IsLongDirectory file place ⊎ BreaksChain (fat_table file) (directory_head file) place

-- the directory's sectors
pub record IsDirectory (file directory : List ℕ) : Type 0 where
  pub holds : HoldsChain (fat_table file) (directory_head file) directory
  pub short : length directory ≤ 256

-- entry k of a directory of these sectors is here; there are four of them in each sector
abbrev pub entry_place : List ℕ → ℕ → ℕ
entry_place directory k = (slice_index directory (k / 4) + 1) * sector_len + 128 * (k % 4)

abbrev pub entry_count : List ℕ → ℕ
entry_count directory = 4 * length directory

-- a link names an entry above 0 that is there
abbrev pub IsLinkedEntry : List ℕ → ℕ → Type 0
IsLinkedEntry directory k = (0 < k) × (k < entry_count directory)

-- the entries that are reached from the root's child by left and right: no fewer, and no others
pub data IsReachedEntry (file directory : List ℕ) : ℕ → Type 0 where
  child : (k : ℕ) → entry_child file (entry_place directory 0) ≡ k → IsLinkedEntry directory k → IsReachedEntry file
      directory
      k
  left : (from k : ℕ) → IsReachedEntry file directory from → entry_left file (entry_place directory from) ≡ k →
      IsLinkedEntry directory k → IsReachedEntry file directory k
  right : (from k : ℕ) → IsReachedEntry file directory from → entry_right file (entry_place directory from) ≡ k →
      IsLinkedEntry directory k → IsReachedEntry file directory k

-- a list of the entries that are reached, each of them once
pub record ListsReached (file directory order : List ℕ) : Type 0 where
  pub sound : (i : ℕ) → i < length order → IsReachedEntry file directory (slice_index order i)
  pub within : (i : ℕ) → i < length order → IsLinkedEntry directory (slice_index order i)
  pub complete : (k : ℕ) → IsReachedEntry file directory k → HasSector order k
  pub distinct : (i j : ℕ) → i < j → j < length order → slice_index order i ≢ slice_index order j

-- the place of a left or right link of an entry that is reached
pub record IsSideLink (file directory : List ℕ) (place : ℕ) : Type 0 where
  pub entry : ℕ
  pub reached : IsReachedEntry file directory entry
  pub here : (place ≡ entry_place directory entry + 68) ⊎ (place ≡ entry_place directory entry + 72)

-- the links that are checked are at these places
abbrev pub IsLink : List ℕ → List ℕ → ℕ → Type 0
IsLink file directory place = (place ≡ entry_place directory 0 + 76) ⊎ IsSideLink file directory place

-- a link at a lower offset names the same entry
pub record IsNamedBefore (file directory : List ℕ) (place : ℕ) : Type 0 where
  pub earlier : ℕ
  pub link : IsLink file directory earlier
  pub below : earlier < place
  pub same : u32_at file earlier ≡ u32_at file place

-- a link that names entry 0, an entry that is not there, or one that was named
pub record IsWrongLink (file directory : List ℕ) (place : ℕ) : Type 0 where
  pub names : u32_at file place ≢ no_stream_entry
  pub wrong : (¬ IsLinkedEntry directory (u32_at file place)) ⊎ IsNamedBefore file directory place

pub record BreaksLink (file directory : List ℕ) (place : ℕ) : Type 0 where
  pub link : IsLink file directory place
  pub wrong : IsWrongLink file directory place

-- an entry that is reached breaks a rule
pub record AmongReached (file directory : List ℕ) (each : ℕ → ℕ → Type 0) (place : ℕ) : Type 0 where
  pub entry : ℕ
  pub reached : IsReachedEntry file directory entry
  pub broken : each entry place

-- the entry is neither a storage nor a stream
pub record IsWrongType (file directory : List ℕ) (entry place : ℕ) : Type 0 where
  pub here : place ≡ entry_place directory entry + 66
  pub not_storage : entry_type file (entry_place directory entry) ≢ 1
  pub not_stream : entry_type file (entry_place directory entry) ≢ 2

-- rule 7: entry 0 is the root
abbrev pub BreaksRoot : List ℕ → List ℕ → ℕ → Type 0
BreaksRoot file directory place =
    (place ≡ entry_place directory 0 + 66) × (entry_type file (entry_place directory 0) ≢ 5)

-- rule 8
abbrev pub BreaksTree : List ℕ → List ℕ → ℕ → Type 0
BreaksTree file directory place = BreaksLink file directory place ⊎ AmongReached file directory
    (IsWrongType file directory) place

-- the length of a name in bytes with its terminator is odd, or not from 4 to 64
abbrev pub IsWrongNameLength : ℕ → Type 0
IsWrongNameLength len = (len % 2 ≢ 0) ⊎ ((len < 4) ⊎ (64 < len))

-- an entry that is at a lower offset has the same name
pub record IsNameTaken (file directory : List ℕ) (at : ℕ) : Type 0 where
  pub earlier : ℕ
  pub reached : IsReachedEntry file directory earlier
  pub below : entry_place directory earlier < at
  pub same : HaveOneName file (entry_place directory earlier) at

-- the name's length is wrong, or the name is taken
pub record IsWrongName (file directory : List ℕ) (entry place : ℕ) : Type 0 where
  pub here : place ≡ entry_place directory entry + 64
  pub wrong : IsWrongNameLength (entry_name_length file (entry_place directory entry)) ⊎ IsNameTaken file directory
      (entry_place directory entry)

-- rule 9
abbrev pub BreaksName : List ℕ → List ℕ → ℕ → Type 0
BreaksName file directory = AmongReached file directory (IsWrongName file directory)

-- a storage with a child
pub record IsWrongStorage (file directory : List ℕ) (entry place : ℕ) : Type 0 where
  pub here : place ≡ entry_place directory entry + 76
  pub storage : entry_type file (entry_place directory entry) ≡ 1
  pub child : entry_child file (entry_place directory entry) ≢ no_stream_entry

-- rule 10
abbrev pub BreaksStorage : List ℕ → List ℕ → ℕ → Type 0
BreaksStorage file directory = AmongReached file directory (IsWrongStorage file directory)
