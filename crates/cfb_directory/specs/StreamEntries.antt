-- The entries of the streams, and what each of them claims.
use Rattle.std.specs.Prelude.{◌≡◌, ℕ, ◌+◌, ◌<◌, ◌≤◌, List}
use Rattle.cfb_sectors.specs.Chain.{ChainHead}
use Rattle.cfb_directory.specs.Directory.{entry_type, entry_start, entry_stream_size}
use Rattle.cfb_directory.specs.Reach.{entry_place, IsReachedEntry}

-- the chain of the stream whose entry is at an offset, in sectors of so many bytes
abbrev pub stream_head : List ℕ → ℕ → ℕ → ChainHead
stream_head file unit at = record
    { field = at + 116; start = entry_start file at; unit = unit; size = entry_stream_size file at }

-- an entry that is reached and is a stream
pub record IsStreamEntry (file directory : List ℕ) (entry : ℕ) : Type 0 where
  pub reached : IsReachedEntry file directory entry
  pub stream : entry_type file (entry_place directory entry) ≡ 2

-- a stream of 4,096 bytes or more has sectors of its own
pub record IsLargeStream (file directory : List ℕ) (entry : ℕ) : Type 0 where
  pub is_entry : IsStreamEntry file directory entry
  pub large : 4096 ≤ entry_stream_size file (entry_place directory entry)

-- a shorter one that is not empty is in mini sectors
pub record IsSmallStream (file directory : List ℕ) (entry : ℕ) : Type 0 where
  pub is_entry : IsStreamEntry file directory entry
  pub some : 0 < entry_stream_size file (entry_place directory entry)
  pub small : entry_stream_size file (entry_place directory entry) < 4096
