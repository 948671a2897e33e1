-- Going through a list of sprms.
use Rattle.std.specs.Prelude.{◌≡◌, ◌⊎◌, ℕ, ◌+◌, ◌≤◌, List, ◌∷◌, ◌++◌, length, drop, slice_range}
use Rattle.sprm_table.specs.Sprm.{Prl, IsPrl, spelling, EndsSprmList, SpellsSprmList, IsShortPrl}

-- the bytes of the list, and the place that was reached in them
pub record SprmCursor : Type 0 where
  pub bytes : List ℕ
  pub at : ℕ

-- the bytes that are left
abbrev pub left : SprmCursor → List ℕ
left cursor = drop cursor.at cursor.bytes

-- the bytes from the place on begin with an entry: the code, and the value in this range
pub record IsPrlAt (bytes : List ℕ) (at code from to : ℕ) : Type 0 where
  pub later : at + 2 ≤ from
  pub order : from ≤ to
  pub within : to ≤ length bytes
  pub entry : IsPrl (code, slice_range bytes from to)
  pub spelt : drop at bytes ≡ spelling (code, slice_range bytes from to) ++ drop to bytes

-- nothing is given: the list ends here, or the next code's operand leaves it
pub record GivesNothing (old new : SprmCursor) : Type 0 where
  pub stays : new ≡ old
  pub ended : EndsSprmList (left old) ⊎ IsShortPrl (left old)

-- an entry is given, and the place is after it
pub record GivesPrl (old new : SprmCursor) (code from to : ℕ) : Type 0 where
  pub entry : IsPrlAt old.bytes old.at code from to
  pub bytes : new.bytes ≡ old.bytes
  pub at : new.at ≡ to

-- the entry is the first of the list that was left, and the others are left
pub record TakesFirstPrl (old new : SprmCursor) (list : List Prl) (code from to : ℕ) : Type 0 where
  pub others : List Prl
  pub is : list ≡ (code, slice_range old.bytes from to) ∷ others
  pub left : SpellsSprmList (left new) others
