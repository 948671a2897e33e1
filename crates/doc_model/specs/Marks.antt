-- The bookmarks of a document: that they are formed, their rule, and where a splice of the main text moves them.
use Rattle.std.specs.Prelude.{◌≡◌, ◌⊎◌, ℕ, ◌<◌, ◌≤◌, List, length}
use Rattle.std.specs.List.{splice}
use Rattle.doc_bits.specs.declared.places.Where.TheVariants.{Main}
use Rattle.doc_bits.specs.Places.{Place}
use Rattle.document_bookmarks.specs.declared.bookmark_order.Bookmark.{Bookmark}
use Rattle.document_bookmarks.specs.Bookmarks.{AreFormedBookmarks, moved_bookmarks}
use Rattle.document_bookmarks.specs.Names.{HasSameName}
use Rattle.doc_model.specs.declared.item.Item.{Item}
use Rattle.doc_model.specs.declared.document.Document.{Document}

-- each is within the main text and has a name, and they are in their order
abbrev pub HasFormedBookmarks : Document → Type 0
HasFormedBookmarks document = AreFormedBookmarks (length document.main) document.bookmarks

abbrev pub most_bookmarks : ℕ
most_bookmarks = 16000

-- there are too many bookmarks, at 0
abbrev pub AreTooMany : List Bookmark → ℕ → Type 0
AreTooMany list place = (place ≡ 0) × (most_bookmarks < length list)

-- there are not, and one has the name of an earlier one: where the first such bookmark of the list begins
abbrev pub HasNameTwice : List Bookmark → ℕ → Type 0
HasNameTwice list place = (length list ≤ most_bookmarks) × HasSameName list place

-- where the bookmarks break their rule, whatever their order
abbrev pub AreWrongBookmarks : List Bookmark → ℕ → Type 0
AreWrongBookmarks list place = AreTooMany list place ⊎ HasNameTwice list place

abbrev pub HasWrongBookmarks : Document → Place → Type 0
HasWrongBookmarks document place = (place.0 ≡ Main) × AreWrongBookmarks document.bookmarks place.1

-- the document with fresh items in place of some of the main text; the ends of its bookmarks go with it
abbrev pub main_spliced : ℕ → ℕ → List Item → Document → Document
main_spliced from to fresh document = record document {
  main = splice document.main from to fresh;
  bookmarks = moved_bookmarks from to (length fresh) document.bookmarks;
}
