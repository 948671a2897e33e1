-- What a sound document says of its bookmarks alone: no item of its texts tells it.
use Rattle.std.specs.Prelude.{ℕ, ◌≤◌, List, length}
use Rattle.doc_bits.specs.Rules.{Nowhere}
use Rattle.document_bookmarks.specs.declared.bookmark_order.Bookmark.{Bookmark}
use Rattle.document_bookmarks.specs.Bookmarks.{AreFormedBookmarks}
use Rattle.document_bookmarks.specs.Names.{HasSameName}
use Rattle.doc_model.specs.Marks.{most_bookmarks}

-- the bookmarks of a main text of this length are formed, not too many, and none has the name of an earlier one
pub record AreValidBookmarks (len : ℕ) (list : List Bookmark) : Type 0 where
  pub formed : AreFormedBookmarks len list
  pub few : length list ≤ most_bookmarks
  pub names : Nowhere (HasSameName list)
