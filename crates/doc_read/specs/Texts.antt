-- Texts cut out of the items of the whole text.
use Rattle.std.specs.Prelude.{◌≡◌, ℕ, ◌+◌, ◌<◌, ◌≤◌, List, [], length, slice_get, slice_index, slice_range, Some}
use Rattle.doc_model.specs.declared.item.Item.{Item}

-- the cuts of a story that begins at a CP never fall, and end within so many items
pub record AreCutsWithin (begin : ℕ) (cuts : List ℕ) (len : ℕ) : Type 0 where
  pub order : (k : ℕ) → k + 1 < length cuts → slice_index cuts k ≤ slice_index cuts (k + 1)
  pub within : (k : ℕ) → k < length cuts → begin + slice_index cuts k ≤ len

-- text k has the items between cut k and the next, and is empty where these are missing
pub record AreCutFrom (items : List Item) (begin : ℕ) (cuts : List ℕ) (count : ℕ) (texts : List (List Item)) :
    Type 0 where
  pub len : length texts ≡ count
  pub there :
      (k : ℕ) (text : List Item) → slice_get texts k ≡ Some text → k + 1 < length cuts →
      text ≡ slice_range items (begin + slice_index cuts k) (begin + slice_index cuts (k + 1))
  pub missing : (k : ℕ) (text : List Item) → slice_get texts k ≡ Some text → length cuts ≤ k + 1 → text ≡ []
