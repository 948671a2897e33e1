-- Which sectors a walk has met: a mark for each, kept as a stamp that is the walk's own.
use Rattle.std.specs.Prelude.{◌≡◌, ◌⊎◌, ℕ, ◌==◌, ◌<◌, ◌≤◌, map, Bool, true, false, List, length, slice_index}
use Rattle.std.specs.Prelude.{slice_index_or}
use Rattle.cfb_sectors.specs.SectorChain.{HasSector}

-- the sector is marked
abbrev pub IsMarked : List Bool → ℕ → Type 0
IsMarked marks s = slice_index_or marks s false ≡ true

-- the marks of the sectors with this stamp
abbrev pub stamped_marks : List ℕ → ℕ → List Bool
stamped_marks stamps stamp = map (λ s. s == stamp) stamps

-- no stamp is above this one
abbrev pub AreStamps : List ℕ → ℕ → Type 0
AreStamps stamps stamp = (s : ℕ) → slice_index stamps s ≤ stamp

-- the sectors of a path, which were not marked, are marked
pub record IsVisitedSince (old new : List Bool) (path : List ℕ) : Type 0 where
  pub kept : (s : ℕ) → IsMarked old s → IsMarked new s
  pub met : (i : ℕ) → i < length path → IsMarked new (slice_index path i)
  pub free : (i : ℕ) → i < length path → ¬ IsMarked old (slice_index path i)
  pub only : (s : ℕ) → IsMarked new s → IsMarked old s ⊎ HasSector path s
