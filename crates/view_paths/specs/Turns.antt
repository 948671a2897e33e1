-- How far two paths go together.
use Rattle.std.specs.Prelude.{◌≡◌, ℕ, ◌≤◌, Bool, List, length, take, drop}
use Rattle.view_paths.specs.Paths.{shared, behind_shared}

-- so many elements at the front of both are what they share
pub record IsSharedFront {E : Type 0} (same : E → E → Bool) (from to : List E) (count : ℕ) : Type 0 where
  pub within : count ≤ length from
  pub front : shared same from to ≡ take count from
  pub also : shared same from to ≡ take count to
  pub from_rest : behind_shared same from to ≡ drop count from
  pub to_rest : behind_shared same to from ≡ drop count to

-- the one path is the front of the other one
abbrev pub IsFront : {E : Type 0} → List E → List E → Type 0
IsFront front path = take (length front) path ≡ front
