-- The first item of a text that is not right.
use Rattle.std.proofs.Common.{◌≡◌, ℕ, ◌<◌, List, length, get_or, refl, ◌∙◌, subst}
use Rattle.std.proofs.lemmas.Option.{slice_get_read, slice_get_within, get_or_from_slice_get}
use Rattle.doc_model.specs.declared.item.Item.{Item}
use Rattle.plain_doc.specs.RulesOfItems.{IsWrongItem}

-- an item that is not right, at its place
pub wrong_there : (right : ℕ → Item → Type 0) (text : List Item) (i : ℕ) (item : Item) → i < length text →
    item ≡ get_or text i item → (right i item → ⊥) → IsWrongItem right text i
wrong_there right text i item h is wrong =
    record { item = item; there = slice_get_read text (length text) i item refl h is; wrong = wrong }

-- a right one
pub right_there : (right : ℕ → Item → Type 0) (text : List Item) (i : ℕ) (item : Item) → item ≡ get_or text i item →
    right i item → IsWrongItem right text i → ⊥
right_there right text i item is good w =
    w.wrong (subst (right i) (is ∙ get_or_from_slice_get text i w.item item w.there) good)

-- an item that is not right is within the text
pub wrong_within : (right : ℕ → Item → Type 0) (text : List Item) (i : ℕ) → IsWrongItem right text i → i < length text
wrong_within right text i w = slice_get_within text i w.item w.there
