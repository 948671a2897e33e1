-- Pictures in the order of their places.
use Rattle.std.specs.Prelude.{ℕ, ◌<◌, ◌≤◌, List, length, slice_index_or}
use Rattle.doc_pictures.specs.declared.pictures.Picture.{Picture}

-- each is at a lesser place than those behind it
abbrev pub ArePlacesAscending : List Picture → Type 0
ArePlacesAscending pictures =
    (i j : ℕ) (d : Picture) → i < j → j < length pictures →
    (slice_index_or pictures i d).place < (slice_index_or pictures j d).place

-- so many are at lesser places, and the others are not
pub record IsCountBefore (pictures : List Picture) (place count : ℕ) : Type 0 where
  pub inside : count ≤ length pictures
  pub below : (k : ℕ) (d : Picture) → k < count → (slice_index_or pictures k d).place < place
  pub above :
      (k : ℕ) (d : Picture) → count ≤ k → k < length pictures → place ≤ (slice_index_or pictures k d).place
