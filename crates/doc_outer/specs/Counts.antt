-- Counts of what went wrong outside. A count is a number of 64 bits that never falls; at its last value it is
-- still.
use Rattle.std.specs.Prelude.{ℕ, ◌+◌, ◌≤◌, min}

-- the last value of a count
abbrev pub last_count : ℕ
last_count = 18446744073709551615

-- a count that is raised by one
abbrev pub raised : ℕ → ℕ
raised count = min (count + 1) last_count

-- the count rose, or it is at its last value
abbrev pub Rose : ℕ → ℕ → Type 0
Rose before now = raised before ≤ now

-- the count goes on: it did not fall, and it is not beyond its last value
pub record CountGoesOn (before now : ℕ) : Type 0 where
  pub not_fallen : before ≤ now
  pub not_beyond : before ≤ last_count → now ≤ last_count
