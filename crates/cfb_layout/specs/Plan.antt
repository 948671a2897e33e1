-- What is kept of the lengths of streams that fit.
use Rattle.std.specs.Prelude.{◌≡◌, ℕ, ◌≤◌, List, length}
use Rattle.cfb_layout.specs.Counts.{mini_counts, sector_counts, Fits}

-- the counts of mini sectors and of sectors
pub record IsPlan (lengths minis sectors : List ℕ) : Type 0 where
  pub minis_are : minis ≡ mini_counts lengths
  pub sectors_are : sectors ≡ sector_counts lengths
  pub few : length lengths ≤ 1023
  pub fits : Fits lengths
