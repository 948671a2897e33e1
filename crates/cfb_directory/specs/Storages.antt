-- The storages of the root that have something.
use Rattle.std.specs.Prelude.{◌≡◌, ◌≢◌, ℕ, List}
use Rattle.cfb_directory.specs.Directory.{entry_type, entry_child, no_stream_entry}
use Rattle.cfb_directory.specs.Reach.{entry_place, IsReachedEntry}

-- a storage with a child
abbrev pub IsStorageWithChild : List ℕ → List ℕ → ℕ → Type 0
IsStorageWithChild file directory entry =
    (entry_type file (entry_place directory entry) ≡ 1)
    × (entry_child file (entry_place directory entry) ≢ no_stream_entry)

-- an entry that is reached and is such a storage
pub record IsFilledStorage (file directory : List ℕ) (entry : ℕ) : Type 0 where
  pub reached : IsReachedEntry file directory entry
  pub filled : IsStorageWithChild file directory entry
