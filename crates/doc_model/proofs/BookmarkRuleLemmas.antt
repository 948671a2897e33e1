-- Where bookmarks break their rule, as it is found.
use Rattle.std.proofs.Common.{inl, inr, refl, ℕ, ◌<◌, ◌≤◌, List, length, Option, Some, None, arith}
use Rattle.doc_bits.specs.Rules.{Nowhere, IsLeast, LeastOrNone}
use Rattle.document_bookmarks.specs.declared.bookmark_order.Bookmark.{Bookmark}
use Rattle.document_bookmarks.specs.Names.{HasSameName}
use Rattle.doc_model.specs.Marks.{most_bookmarks, AreWrongBookmarks}

pub wrong_count : (list : List Bookmark) → most_bookmarks < length list →
    IsLeast (λ a b. a ≤ b) (AreWrongBookmarks list) 0
wrong_count list many = record { broken = inl (refl, many); least = λ place w. omega arith }

pub right_names : (list : List Bookmark) → length list ≤ most_bookmarks → Nowhere (HasSameName list) →
    Nowhere (AreWrongBookmarks list)
right_names list few none place w = elim w [
  | inl many ↦ omega (arith, many.1, few)
  | inr twice ↦ none place twice.1
]

pub wrong_names : (list : List Bookmark) (found : Option ℕ) → length list ≤ most_bookmarks →
    LeastOrNone (HasSameName list) found → LeastOrNone (AreWrongBookmarks list) found
wrong_names list None few none = right_names list few none
wrong_names list (Some from) few first = record {
  broken = inr (few, first.broken);
  least = λ place w. elim w [
    | inl many ↦ absurd (omega (arith, many.1, few))
    | inr twice ↦ first.least place twice.1
  ];
}
