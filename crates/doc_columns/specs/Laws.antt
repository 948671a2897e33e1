-- What the special items of a document say of all of it.
use Rattle.std.specs.Prelude.{◌≤◌, length}
use Rattle.doc_model.specs.declared.document.Document.{Document}
use Rattle.plain_doc.specs.RulesOfSheet.{item_count, most_items}
use Rattle.plain_doc.specs.Sound.{IsSound}
use Rattle.doc_columns.specs.Specials.{AreSpecialsOf}
use Rattle.doc_columns.specs.Marks.{AreValidBookmarks}

-- a document whose bare items are right, which has not too many, and whose bookmarks are right, is sound where that of
-- its special items is
abbrev pub SpecialItemsDecide : Type 0
SpecialItemsDecide =
    (document kept : Document) → AreSpecialsOf document kept → item_count document ≤ most_items →
    AreValidBookmarks (length document.main) document.bookmarks → IsSound kept → IsSound document
