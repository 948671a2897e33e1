use Rattle.std.proofs.Common.{rules}
use Rattle.std.specs.Ordering.{is_lt}
use Rattle.std.proofs.lemmas.List.Sorted.{ranks_by, answers_always}
use Rattle.document_bookmarks.specs.Bookmarks.{bookmark_cmp}
use Rattle.document_bookmarks.proofs.OrderLemmas.{sorted_is_in_order}
use Rattle.document_bookmarks.proofs.BookmarkLemmas.{bookmark_total, bookmark_alone}
use Rattle.document_bookmarks.proofs.bookmark_order.sort.Goals as goal

pub returns : goal.returns
returns c =
    sorted_is_in_order bookmark_cmp bookmark_total bookmark_alone _ _ c.sort_unstable_by.ensures.permutation
    (c.sort_unstable_by.ensures.sorted (λ a b. is_lt (bookmark_cmp a b)) (ranks_by bookmark_total (λ a. a))
    (answers_always _ _ _ (λ f a r g h. search rules)))
