-- Items with and without marks, one after the other.
use Rattle.std.proofs.Common.{ℕ, refl, sym, ap, subst, arith, ◌≡◌, ◌∙◌, ◌+◌, ◌<◌, ◌≤◌, List, length, get_or, true, not}
use Rattle.std.proofs.Common.{false, inl, inr, None}
use Rattle.std.specs.Prelude.{is_some, IsSome}
use Rattle.std.proofs.lemmas.Bool.{cases_lt}
use Rattle.std.proofs.lemmas.Option.{get_or_from_slice_get, slice_get_past, slice_get_read}
use Rattle.doc_model.specs.declared.item.Item.{Item}
use Rattle.doc_model.specs.Paragraphs.{EndsParagraph, HasNoParagraphEnd}
use Rattle.doc_model.specs.Settings.{is_inside}

-- no item of a range has a mark
abbrev pub HasNoMark : List Item → ℕ → ℕ → Type 0
HasNoMark items from to = (at : ℕ) → from ≤ at → at < to → ¬ EndsParagraph items at

-- an item without a mark ends no paragraph
pub no_mark_at : (items : List Item) (at : ℕ) (item : Item) → is_some (get_or items at item).mark ≡ false →
    ¬ EndsParagraph items at
no_mark_at items at item unmarked ends =
    let same : get_or items at item ≡ ends.item = get_or_from_slice_get items at ends.item item ends.here in
    absurd (grind (arith, sym ends.marked ∙ sym (ap (λ x. is_some x.mark) same) ∙ unmarked))

-- an item with a mark ends one
pub mark_at : (items : List Item) (at : ℕ) (item : Item) → at < length items → item ≡ get_or items at item →
    is_some (get_or items at item).mark ≡ true → EndsParagraph items at
mark_at items at item within is marked =
    record {
      item = item;
      here = slice_get_read items (length items) at item refl within is;
      marked = ap (λ x. is_some x.mark) is ∙ marked;
    }

-- one more item without a mark
pub HasNoMark-more : (items : List Item) (from to : ℕ) (item : Item) → HasNoMark items from to →
    is_some (get_or items to item).mark ≡ false → HasNoMark items from (to + 1)
HasNoMark-more items from to item none unmarked at after below =
    elim (cases_lt at to) [
      | inl less ↦ none at after less
      | inr not_less ↦
          let here : at ≡ to = omega arith in
          subst (λ k. ¬ EndsParagraph items k) (sym here) (no_mark_at items to item unmarked)
    ]

-- past the end there is no item
pub HasNoMark-all : (items : List Item) (from to : ℕ) → HasNoMark items from to → length items ≤ to →
    HasNoParagraphEnd items from
HasNoMark-all items from to none end at after ends =
    elim (cases_lt at to) [
      | inl less ↦ none at after less ends
      | inr not_less ↦ absurd (grind (arith, sym ends.here ∙ slice_get_past items at (omega arith)))
    ]

pub a_mark : (x y : Item) → IsSome x.mark → is_inside x y ≡ false
a_mark x y some = ap not some

pub no_mark : (x y : Item) → x.mark ≡ None → is_inside x y ≡ true
no_mark x y none = ap (λ m. not (is_some m)) none
