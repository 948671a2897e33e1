-- A value of the form of a change of tab stops, with its counts read.
use Rattle.std.specs.Prelude.{◌≡◌, ℕ, List}
use Rattle.effective_props.specs.TabChange.{IsTabChange, deleted_count, added_count}

pub record HasParts (value : List ℕ) (deleted added : ℕ) : Type 0 where
  pub form : IsTabChange value
  pub deleted_count : deleted ≡ deleted_count value
  pub added_count : added ≡ added_count value
