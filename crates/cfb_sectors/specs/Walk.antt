-- A walk from sector to sector.
use Rattle.std.specs.Prelude.{◌≡◌, ◌≢◌, ℕ, ◌+◌, ◌-◌, ◌<◌, List, length, slice_index}

-- a path so far, and the sector at which it goes on
pub record IsChainWalk (entry : ℕ → ℕ) (valid start at : ℕ) (sectors : List ℕ) : Type 0 where
  pub begins : length sectors ≡ 0 → at ≡ start
  pub first : 0 < length sectors → slice_index sectors 0 ≡ start
  pub within : (i : ℕ) → i < length sectors → slice_index sectors i < valid
  pub distinct : (i j : ℕ) → i < j → j < length sectors → slice_index sectors i ≢ slice_index sectors j
  pub links : (i : ℕ) → i + 1 < length sectors → entry (slice_index sectors i) ≡ slice_index sectors (i + 1)
  pub next : 0 < length sectors → entry (slice_index sectors (length sectors - 1)) ≡ at
