-- A list of entries that grows, and the marks of those that it has.
use Rattle.std.specs.Prelude.{◌≡◌, ◌≢◌, ℕ, ◌<◌, ◌≤◌, Bool, true, false, List, length, slice_index, slice_index_or}
use Rattle.cfb_sectors.specs.SectorChain.{HasSector}

-- the entries of the list, each once, are those that are marked
pub record IsSeen (order : List ℕ) (seen : List Bool) : Type 0 where
  pub marked : (i : ℕ) → i < length order → slice_index_or seen (slice_index order i) false ≡ true
  pub listed : (k : ℕ) → slice_index_or seen k false ≡ true → HasSector order k
  pub within : (i : ℕ) → i < length order → (0 < slice_index order i) × (slice_index order i < length seen)
  pub distinct : (i j : ℕ) → i < j → j < length order → slice_index order i ≢ slice_index order j

-- the new list is the old one with the entry that the link names at its end, where that was not in it
pub record FollowsLink (count link : ℕ) (old new : List ℕ) : Type 0 where
  pub longer : length old ≤ length new
  pub front : (i : ℕ) → i < length old → slice_index new i ≡ slice_index old i
  pub added : (i : ℕ) → length old ≤ i → i < length new → slice_index new i ≡ link
  pub there : 0 < link → link < count → HasSector new link
