-- Where paragraphs end.
use Rattle.std.specs.Prelude.{◌≡◌, ℕ, ◌≤◌, List, Some, IsSome, slice_get}
use Rattle.doc_model.specs.declared.item.Item.{Item}

-- the item there has a mark
pub record EndsParagraph (items : List Item) (at : ℕ) : Type 0 where
  pub item : Item
  pub here : slice_get items at ≡ Some item
  pub marked : IsSome item.mark

-- the first item with a mark, from a place on
pub record IsParagraphEnd (items : List Item) (from end : ℕ) : Type 0 where
  pub after : from ≤ end
  pub ends : EndsParagraph items end
  pub least : (at : ℕ) → from ≤ at → EndsParagraph items at → end ≤ at

-- no item from a place on has a mark
abbrev pub HasNoParagraphEnd : List Item → ℕ → Type 0
HasNoParagraphEnd items from = (at : ℕ) → from ≤ at → ¬ EndsParagraph items at
