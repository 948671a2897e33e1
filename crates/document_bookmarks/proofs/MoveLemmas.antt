-- What keeps bookmarks formed: a splice of the main text, a bookmark more, and fewer of them.
use Rattle.std.proofs.Common.{ℕ, ◌+◌, ◌-◌, ◌≤◌, Bool, List, map, arith}
use Rattle.std.specs.Prelude.{All}
use Rattle.std.specs.List.{filter}
use Rattle.std.proofs.lemmas.Bool.Decides.{nat_tests}
use Rattle.std.proofs.lemmas.List.Elements.{All-map, All-weaker, All-filter}
use Rattle.document_bookmarks.specs.declared.bookmark_order.Bookmark.{Bookmark}
use Rattle.document_bookmarks.specs.Order.{put_in}
use Rattle.document_bookmarks.specs.Bookmarks.{bookmark_cmp, IsFormedBookmark, AreFormedBookmarks, end_moved, moved_bookmark}
use Rattle.document_bookmarks.specs.Bookmarks.{MovesKeepForm}
use Rattle.document_bookmarks.proofs.OrderLemmas.{in_order_sorted, put_sorted, filter_sorted, all_put, all_in_order}
use Rattle.document_bookmarks.proofs.BookmarkLemmas.{bookmark_total}

-- a lesser end stays no greater
moved_upto : (from to count p q : ℕ) → from ≤ to → p ≤ q → end_moved from to count p ≤ end_moved from to count q
moved_upto from to count p q ordered up = grind (arith, nat_tests)

-- an end within the text is within the new one
pub moved_within : (from to count len p : ℕ) → from ≤ to → to ≤ len → p ≤ len →
    end_moved from to count p ≤ len - (to - from) + count
moved_within from to count len p ordered within low = grind (arith, nat_tests)

moved_fits : (from to count len : ℕ) (bookmark : Bookmark) → from ≤ to → to ≤ len → IsFormedBookmark len bookmark →
    IsFormedBookmark (len - (to - from) + count) (moved_bookmark from to count bookmark)
moved_fits from to count len bookmark ordered within formed = record {
  ordered = moved_upto from to count bookmark.from bookmark.to ordered formed.ordered;
  within = moved_within from to count len bookmark.to ordered within formed.within;
  named = formed.named;
  short = formed.short;
}

pub moves_form : MovesKeepForm
moves_form from to count len list ordered within formed =
    let end : ℕ = len - (to - from) + count in
    let move : Bookmark → Bookmark = moved_bookmark from to count in
    let moved : All (λ b. IsFormedBookmark end (move b)) list =
    All-weaker (IsFormedBookmark len) (λ b. IsFormedBookmark end (move b))
    (λ b h. moved_fits from to count len b ordered within h) list formed.each in
    record {
      each = all_in_order (IsFormedBookmark end) bookmark_cmp (map move list)
          (All-map (IsFormedBookmark end) move list moved);
      in_order = in_order_sorted bookmark_cmp bookmark_total (map move list);
    }

-- a bookmark more, in its place
pub put_form : (len : ℕ) (bookmark : Bookmark) (list : List Bookmark) → IsFormedBookmark len bookmark →
    AreFormedBookmarks len list → AreFormedBookmarks len (put_in bookmark_cmp bookmark list)
put_form len bookmark list fits formed = record {
  each = all_put (IsFormedBookmark len) bookmark_cmp bookmark list fits formed.each;
  in_order = put_sorted bookmark_cmp bookmark_total bookmark list formed.in_order;
}

-- those that pass a test
pub filter_form : (len : ℕ) (p : Bookmark → Bool) (list : List Bookmark) → AreFormedBookmarks len list →
    AreFormedBookmarks len (filter p list)
filter_form len p list formed = record {
  each = All-filter p (IsFormedBookmark len) list formed.each;
  in_order = filter_sorted bookmark_cmp bookmark_total p list formed.in_order;
}
