-- What of a document stays where memory runs out while it is mended.
use Rattle.std.specs.Prelude.{◌≡◌}
use Rattle.doc_model.specs.declared.document.Document.{Document}

-- what is carried, and the bookmarks
pub record KeepsCarried (old new : Document) : Type 0 where
  pub carried : new.carried ≡ old.carried
  pub bookmarks : new.bookmarks ≡ old.bookmarks

-- these, and the styles
pub record KeepsAllButTexts (old new : Document) : Type 0 where
  pub sheet : new.sheet ≡ old.sheet
  pub carried : new.carried ≡ old.carried
  pub bookmarks : new.bookmarks ≡ old.bookmarks
