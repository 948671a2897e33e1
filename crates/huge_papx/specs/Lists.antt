-- The last entry of a kind in a list of sprms.
use Rattle.std.specs.Prelude.{◌≡◌, ℕ, ◌==◌, Bool, ◌||◌, List, Option, Some, None, option_map}
use Rattle.std.specs.List.{filter, last_or}
use Rattle.sprm_table.specs.Sprm.{Prl, SpellsSprmList}
use Rattle.huge_papx.specs.declared.lists.Sought.{Sought}
use Rattle.huge_papx.specs.declared.lists.Sought.TheVariants.{HugePapx, RowEnd, Definition}

-- [MS-DOC] sprmPHugePapx, which early programs wrote as 6645; sprmPFTtp; sprmTDefTable
abbrev pub is_sought : Sought → ℕ → Bool
is_sought HugePapx code = code == 0x6646 || code == 0x6645
is_sought RowEnd code = code == 0x2417
is_sought Definition code = code == 0xD608

abbrev pub sought_among : Sought → List Prl → List Prl
sought_among sought prls = filter (λ prl. is_sought sought prl.0) prls

-- the value of the last such entry
abbrev pub last_value : Sought → List Prl → Option (List ℕ)
last_value sought prls = option_map (λ prl. prl.1) (last_or None (sought_among sought prls))

-- the list that the bytes spell has this one; a list that is cut short has none
pub record HasLastValue (sought : Sought) (list value : List ℕ) : Type 0 where
  pub prls : List Prl
  pub spelt : SpellsSprmList list prls
  pub last : last_value sought prls ≡ Some value
