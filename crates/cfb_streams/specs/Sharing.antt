-- Whose sectors are marked as taken, and whose of them a second owner took.
use Rattle.std.specs.Prelude.{◌≢◌, ℕ, ⊤, List}
use Rattle.cfb_sectors.specs.Marks.{IsMarked}
use Rattle.cfb_streams.specs.StreamRules.{Owner, of_fat, of_directory, of_mini_fat, of_mini_stream, of_stream}
use Rattle.cfb_sectors.specs.Claims.{HasFront, Claimed}

-- one of these owners has the sector
pub record HasOwner {A : Type 0} (owns : A → ℕ → Type 0) (done : A → Type 0) (sector : ℕ) : Type 0 where
  pub owner : A
  pub is_done : done owner
  pub owned : owns owner sector

-- two of these owners have the sector
pub record HasTwoOwners {A : Type 0} (owns : A → ℕ → Type 0) (done : A → Type 0) (sector : ℕ) : Type 0 where
  pub one : A
  pub other : A
  pub apart : one ≢ other
  pub one_done : done one
  pub other_done : done other
  pub first : owns one sector
  pub second : owns other sector

-- these owners took their sectors
pub record IsShareFront {A : Type 0} (owns : A → ℕ → Type 0) (done : A → Type 0) (claimed : Claimed) : Type 0 where
  pub owner : (s : ℕ) → IsMarked claimed.taken s → HasOwner owns done s
  pub taken : (x : A) (s : ℕ) → done x → owns x s → IsMarked claimed.taken s
  pub owners : (s : ℕ) → IsMarked claimed.shared s → HasTwoOwners owns done s
  pub shared : (x y : A) (s : ℕ) → done x → done y → x ≢ y → owns x s → owns y s → IsMarked claimed.shared s

-- the directory, the mini FAT, the mini stream, and the first `count` streams; the FAT comes last, since its sectors
-- are no chain
abbrev pub IsOwnerDone : List ℕ → ℕ → Owner → Type 0
IsOwnerDone order count of_fat = ⊥
IsOwnerDone order count of_directory = ⊤
IsOwnerDone order count of_mini_fat = ⊤
IsOwnerDone order count of_mini_stream = ⊤
IsOwnerDone order count (of_stream entry) = HasFront order count entry
