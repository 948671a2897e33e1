-- The streams and the storages of the root in the order of their names, as lists of their entries.
use Rattle.std.specs.Prelude.{◌≡◌, ◌⊎◌, ℕ, ◌-◌, ◌<◌, ◌≤◌, List, length, slice_index}
use Rattle.std.specs.List.{insert}
use Rattle.cfb_sectors.specs.SectorChain.{HasSector}
use Rattle.cfb_directory.specs.Directory.{EntryBefore, HaveOneName, entry_name_length}
use Rattle.cfb_directory.specs.Reach.{entry_place, IsWrongNameLength}
use Rattle.cfb_directory.specs.StreamEntries.{IsStreamEntry}
use Rattle.cfb_directory.specs.Storages.{IsFilledStorage}

-- each name comes before all later ones
abbrev pub AreOrdered : List ℕ → List ℕ → List ℕ → Type 0
AreOrdered file directory entries =
    (i j : ℕ) → i < j → j < length entries → EntryBefore file (entry_place directory (slice_index entries i))
    (entry_place directory (slice_index entries j))

-- exactly the entries of a kind, in the order of their names
pub record ListsKind (file directory : List ℕ) (kind : ℕ → Type 0) (entries : List ℕ) : Type 0 where
  pub sound : (i : ℕ) → i < length entries → kind (slice_index entries i)
  pub complete : (k : ℕ) → kind k → HasSector entries k
  pub order : AreOrdered file directory entries

-- exactly the entries of the streams, in the order of their names
abbrev pub ListsStreams : List ℕ → List ℕ → List ℕ → Type 0
ListsStreams file directory = ListsKind file directory (IsStreamEntry file directory)

-- exactly the entries of the storages that have something, in the order of their names
abbrev pub ListsFilled : List ℕ → List ℕ → List ℕ → Type 0
ListsFilled file directory = ListsKind file directory (IsFilledStorage file directory)

-- the place is that of the first entry whose name comes after the entry's
pub record IsFirstAfter (file directory entries : List ℕ) (entry place : ℕ) : Type 0 where
  pub inside : place ≤ length entries
  pub before : (i : ℕ) → i < place →
      ¬ EntryBefore file (entry_place directory entry) (entry_place directory (slice_index entries i))
  pub after : place < length entries → EntryBefore file (entry_place directory entry)
      (entry_place directory (slice_index entries place))

-- the entry was put in its place
abbrev pub IsPutIn : List ℕ → List ℕ → ℕ → List ℕ → List ℕ → Type 0
IsPutIn file directory entry old new =
    (place : ℕ) × (IsFirstAfter file directory old entry place × (new ≡ insert old place entry))

-- the entry was put there if it is wanted
abbrev pub PutsWanted : List ℕ → List ℕ → Type 0 → ℕ → List ℕ → List ℕ → Type 0
PutsWanted file directory wanted entry old new =
    ((¬ wanted) × (new ≡ old)) ⊎ (wanted × IsPutIn file directory entry old new)

-- the entry in front of a place has the name of the entry at an offset
abbrev pub IsNameInFront : List ℕ → List ℕ → List ℕ → ℕ → ℕ → Type 0
IsNameInFront file directory entries place at =
    (0 < place) × HaveOneName file (entry_place directory (slice_index entries (place - 1))) at

-- the entry's name has a right length and none of the entries has it, and the place is the entry's among them
pub record IsNewName (file directory entries : List ℕ) (entry place : ℕ) : Type 0 where
  pub right : ¬ IsWrongNameLength (entry_name_length file (entry_place directory entry))
  pub fresh : (i : ℕ) → i < length entries →
      ¬ HaveOneName file (entry_place directory entry) (entry_place directory (slice_index entries i))
  pub first : IsFirstAfter file directory entries entry place
