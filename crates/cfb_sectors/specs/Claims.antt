-- Sectors of a table that are taken, owner by owner, and those that a second owner took.
use Rattle.std.specs.Prelude.{◌≡◌, ◌≢◌, ◌⊎◌, ℕ, ◌<◌, ◌≤◌, Bool, List, length, slice_index}
use Rattle.cfb_sectors.specs.SectorChain.{HasSector}
use Rattle.cfb_sectors.specs.Marks.{IsMarked}
use Rattle.cfb_sectors.specs.Chain.{Table}
use Rattle.cfb_sectors.specs.declared.chain.Walked.{Walked}

-- sectors that may be taken: inside, and none twice
pub record AreDistinctBelow (count : ℕ) (sectors : List ℕ) : Type 0 where
  pub inside : (i : ℕ) → i < length sectors → slice_index sectors i < count
  pub distinct : (i j : ℕ) → i < j → j < length sectors → slice_index sectors i ≢ slice_index sectors j

-- one of the first `count` numbers
pub record HasFront (numbers : List ℕ) (count number : ℕ) : Type 0 where
  pub index : ℕ
  pub below : index < count
  pub here : slice_index numbers index ≡ number

-- the sectors of a table that are taken, and those that were taken twice
pub record Claimed : Type 0 where
  pub taken : List Bool
  pub shared : List Bool

-- no sector was taken twice
abbrev pub IsUnshared : Claimed → Type 0
IsUnshared claimed = (s : ℕ) → ¬ IsMarked claimed.shared s

-- an owner took its sectors: those that were taken already are shared
pub record TakesSectors (owns : ℕ → Type 0) (old new : Claimed) : Type 0 where
  pub kept : (s : ℕ) → IsMarked old.taken s → IsMarked new.taken s
  pub added : (s : ℕ) → owns s → IsMarked new.taken s
  pub only : (s : ℕ) → IsMarked new.taken s → IsMarked old.taken s ⊎ owns s
  pub kept_shared : (s : ℕ) → IsMarked old.shared s → IsMarked new.shared s
  pub added_shared : (s : ℕ) → IsMarked old.taken s → owns s → IsMarked new.shared s
  pub only_shared : (s : ℕ) → IsMarked new.shared s → IsMarked old.shared s ⊎ (IsMarked old.taken s × owns s)

-- the sector that follows a marked one is marked
abbrev pub AreClosedMarks : (ℕ → ℕ) → ℕ → List Bool → Type 0
AreClosedMarks entry valid marks = (s : ℕ) → IsMarked marks s → entry s < valid → IsMarked marks (entry s)

-- whole chains were taken
pub record IsClosedClaim (table : Table) (claimed : Claimed) : Type 0 where
  pub taken : AreClosedMarks table.entry table.valid claimed.taken
  pub shared : AreClosedMarks table.entry table.valid claimed.shared

-- the sectors of a chain were taken; the walk stopped where it ends, or at a sector that is shared now
pub record TakesWalked (chain : List ℕ) (valid : ℕ) (old new : Claimed) (walked : Walked) : Type 0 where
  pub takes : TakesSectors (HasSector chain) old new
  pub free : valid ≤ walked.next → walked.path.items ≡ chain
  pub met : walked.next < valid → IsMarked new.shared walked.next

-- the place of a sector that was taken twice
pub record IsSharedPlace (claimed : Claimed) (place_of : ℕ → ℕ) (place : ℕ) : Type 0 where
  pub sector : ℕ
  pub shared : IsMarked claimed.shared sector
  pub here : place ≡ place_of sector
