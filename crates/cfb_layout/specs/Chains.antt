-- What is kept of chains of sectors that are in a row.
use Rattle.std.specs.Prelude.{◌≡◌, ℕ, ◌^◌, ◌<◌, List, length, sum, slice_index}
use Rattle.cfb_layout.specs.Sectors.{chain_start}

-- the start of each chain, and the number of all sectors
pub record AreChains (counts starts : List ℕ) (total : ℕ) : Type 0 where
  pub len : length starts ≡ length counts
  pub each : (i : ℕ) → i < length starts → slice_index starts i ≡ chain_start counts i
  pub all : total ≡ sum counts
  pub few : sum counts < 2 ^ 32
