-- The names of bookmarks: whether they differ, and which is the first that an earlier bookmark has.
use Rattle.std.specs.Prelude.{◌≡◌, ◌↔◌, ℕ, ◌<◌, ◌≤◌, Bool, List, take, Some, slice_get, IsTrue, All}
use Rattle.std.specs.List.{count_by}
use Rattle.std.specs.Ordering.{nat_cmp, is_eq, on}
use Rattle.std.specs.declared.cmp.Ordering.{Ordering}
use Rattle.std.specs.Cmp.Lexicographic.{slice_cmp}
use Rattle.doc_bits.specs.Rules.{Nowhere}
use Rattle.document_bookmarks.specs.declared.bookmark_order.Bookmark.{Bookmark}
use Rattle.document_bookmarks.specs.Bookmarks.{HasFileNumbers}

-- by their names, unit by unit
abbrev pub name_cmp : Bookmark → Bookmark → Ordering
name_cmp = on (λ b. b.name) (slice_cmp nat_cmp)

-- a bookmark has this name
abbrev pub is_named : List ℕ → Bookmark → Bool
is_named name bookmark = is_eq (slice_cmp nat_cmp bookmark.name name)

-- no name is there twice
abbrev pub AreApart : List Bookmark → Type 0
AreApart list = (name : List ℕ) → count_by (is_named name) list ≤ 1

-- the numbers have the bits of a file, and where the names are known to differ they do
pub record IsBookmarkList (list : List Bookmark) (apart : Bool) : Type 0 where
  pub numbers : All HasFileNumbers list
  pub differ : IsTrue apart → AreApart list

-- the first bookmark of the list whose name an earlier one has begins at this place; the list may be in any order
pub record HasSameName (list : List Bookmark) (place : ℕ) : Type 0 where
  pub entry : ℕ
  pub bookmark : Bookmark
  pub here : slice_get list entry ≡ Some bookmark
  pub first : AreApart (take entry list)
  pub earlier : 0 < count_by (is_named bookmark.name) (take entry list)
  pub begins : place ≡ bookmark.from

-- there is no such bookmark exactly where the names differ
abbrev pub NamesDiffer : Type 0
NamesDiffer = (list : List Bookmark) → Nowhere (HasSameName list) ↔ AreApart list
