-- The first entry of a list.
use Rattle.std.specs.Prelude.{◌≡◌, ℕ, List, ◌∷◌, ◌++◌, length, drop}
use Rattle.sprm_table.specs.Sprm.{Prl, IsPrl, spelling, SpellsSprmList}

-- the bytes begin with the first entry of the list, of this code, which ends there
pub record HasFirst (bytes : List ℕ) (prls : List Prl) (code end : ℕ) : Type 0 where
  pub value : List ℕ
  pub others : List Prl
  pub is : prls ≡ (code, value) ∷ others
  pub entry : IsPrl (code, value)
  pub len : end ≡ length (spelling (code, value))
  pub spelt : bytes ≡ spelling (code, value) ++ drop end bytes
  pub left : SpellsSprmList (drop end bytes) others
