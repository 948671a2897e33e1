-- The order of bookmarks, what a main text allows, and where a splice of it moves them.
use Rattle.std.specs.Prelude.{ℕ, ◌+◌, ◌-◌, ◌<◌, ◌≤◌, ◌^◌, nat_le, nat_lt, List, length, map, All, if◌then◌else◌}
use Rattle.std.specs.Ordering.{nat_cmp, on, then_cmp}
use Rattle.std.specs.declared.cmp.Ordering.{Ordering}
use Rattle.std.specs.Cmp.Lexicographic.{slice_cmp}
use Rattle.std.specs.List.Sorted.{IsSorted}
use Rattle.document_bookmarks.specs.Order.{in_order}
use Rattle.document_bookmarks.specs.declared.bookmark_order.Bookmark.{Bookmark}

-- by where they begin, then where they end, then by their names unit by unit, then by their flags
abbrev pub bookmark_cmp : Bookmark → Bookmark → Ordering
bookmark_cmp =
    then_cmp (on (λ b. b.from) nat_cmp)
    (then_cmp (on (λ b. b.to) nat_cmp)
    (then_cmp (on (λ b. b.name) (slice_cmp nat_cmp)) (on (λ b. b.flags) nat_cmp)))

-- its numbers have the bits that a file gives them
pub record HasFileNumbers (bookmark : Bookmark) : Type 0 where
  pub units : All (λ unit. unit < 2 ^ 16) bookmark.name
  pub from : bookmark.from < 2 ^ 32
  pub to : bookmark.to < 2 ^ 32
  pub flags : bookmark.flags < 2 ^ 16

-- its range is within a main text of this length, and its name has 1 to 255 units
pub record IsFormedBookmark (len : ℕ) (bookmark : Bookmark) : Type 0 where
  pub ordered : bookmark.from ≤ bookmark.to
  pub within : bookmark.to ≤ len
  pub named : 1 ≤ length bookmark.name
  pub short : length bookmark.name ≤ 255

-- each is so, and they are in their order
pub record AreFormedBookmarks (len : ℕ) (list : List Bookmark) : Type 0 where
  pub each : All (IsFormedBookmark len) list
  pub in_order : IsSorted bookmark_cmp list

-- where an end goes when `count` items are in place of those from `from` to before `to`
abbrev pub end_moved : ℕ → ℕ → ℕ → ℕ → ℕ
end_moved from to count p =
    if nat_le p from then p else (if nat_lt p to then from else p - (to - from) + count)

abbrev pub moved_bookmark : ℕ → ℕ → ℕ → Bookmark → Bookmark
moved_bookmark from to count b = record b { from = end_moved from to count b.from; to = end_moved from to count b.to }

-- all ends moved, and the list put in order again
abbrev pub moved_bookmarks : ℕ → ℕ → ℕ → List Bookmark → List Bookmark
moved_bookmarks from to count list = in_order bookmark_cmp (map (moved_bookmark from to count) list)

-- a splice of a main text leaves its bookmarks formed
abbrev pub MovesKeepForm : Type 0
MovesKeepForm =
    (from to count len : ℕ) (list : List Bookmark) → from ≤ to → to ≤ len → AreFormedBookmarks len list →
    AreFormedBookmarks (len - (to - from) + count) (moved_bookmarks from to count list)
