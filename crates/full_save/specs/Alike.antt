-- Items that are in a row and have something in common.
use Rattle.std.specs.Prelude.{◌≡◌, ◌<◌, ◌≤◌, ◌+◌, ℕ, List, length, Some, slice_get}
use Rattle.doc_model.specs.declared.item.Item.{Item}

-- so many items of a text, from a place on, have this
pub record HaveAlike {A : Type 0} (what : Item → A) (value : A) (text : List Item) (place count : ℕ) : Type 0 where
  pub within : place + count ≤ length text
  pub each :
      (j : ℕ) (item : Item) → place ≤ j → j < place + count → slice_get text j ≡ Some item → what item ≡ value
