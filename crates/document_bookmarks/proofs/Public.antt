-- What other crates may cite of these proofs.

-- Names that differ, seen in a list that is in the order of names.
pub use Rattle.document_bookmarks.proofs.ApartLemmas.{one_at_most}
-- The order of bookmarks is a total one, in which no two different ones tie.
pub use Rattle.document_bookmarks.proofs.BookmarkLemmas.{bookmark_alone, bookmark_total}
-- What keeps bookmarks formed: a splice of the main text, a bookmark more, and fewer of them.
pub use Rattle.document_bookmarks.proofs.MoveLemmas.{filter_form, moves_form, put_form}
-- The names of bookmarks: what keeps them apart, and where the first one is that is there twice.
pub use Rattle.document_bookmarks.proofs.NameLemmas.{apart_less, apart_nowhere, counted_here, named_is, nowhere_apart}
pub use Rattle.document_bookmarks.proofs.NameLemmas.{one_named, there_at}
-- A list that a sort left is the one that is put in order.
pub use Rattle.document_bookmarks.proofs.OrderLemmas.{NoneBefore, Rises, all_in_order, in_order_sorted, order_counted}
pub use Rattle.document_bookmarks.proofs.OrderLemmas.{order_rises, sorted_is_in_order, sorted_stays}
