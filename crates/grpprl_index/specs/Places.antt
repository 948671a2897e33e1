-- Lists that were met in a stream, by their places.
use Rattle.std.specs.Prelude.{◌≡◌, ℕ, List, slice_get, slice_range, Some}

-- at the place of this number the stream has a list of these bytes
pub record IsListLike (stream list : List ℕ) (places : List (ℕ × ℕ)) (number : ℕ) : Type 0 where
  pub from : ℕ
  pub to : ℕ
  pub place : slice_get places number ≡ Some (from, to)
  pub same : slice_range stream from to ≡ list
