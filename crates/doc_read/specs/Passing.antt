-- Ascending CPs that are passed one by one, and lists that grow.
use Rattle.std.specs.Prelude.{◌≡◌, ◌≢◌, ℕ, ◌+◌, ◌<◌, ◌≤◌, List, length, slice_get, slice_index, Some}

-- the CPs ascend
abbrev pub AreUp : List ℕ → Type 0
AreUp cps = (i j : ℕ) → i < j → j < length cps → slice_index cps i < slice_index cps j

-- the CPs before that number are below the CP, and the others are not
pub record AreCpsPassed (cps : List ℕ) (next cp : ℕ) : Type 0 where
  pub within : next ≤ length cps
  pub before : (k : ℕ) → k < next → slice_index cps k < cp
  pub after : (k : ℕ) → next ≤ k → k < length cps → cp ≤ slice_index cps k

abbrev pub IsNotAmong : List ℕ → ℕ → Type 0
IsNotAmong cps cp = (k : ℕ) → k < length cps → slice_index cps k ≢ cp

-- CPs that ascend, and as many values
pub record AreListed {A : Type 0} (cps : List ℕ) (values : List A) : Type 0 where
  pub up : AreUp cps
  pub len : length values ≡ length cps

-- so many entries came behind the old ones, each as is said of its number
pub record AddsEach {A : Type 0} (IsValid : ℕ → A → Type 0) (count : ℕ) (old new : List A) : Type 0 where
  pub len : length new ≡ length old + count
  pub kept : (k : ℕ) → k < length old → slice_get new k ≡ slice_get old k
  pub each : (k : ℕ) (entry : A) → length old ≤ k → slice_get new k ≡ Some entry → IsValid k entry
