-- A document as a value of JSON, and its text.
use Rattle.std.specs.Prelude.{ℕ, List, map, codes}
use Rattle.serde_json.specs.Data.{Data, array, object, no_items, item, Members, no_members, member}
use Rattle.serde_json.specs.View.{items_of}
use Rattle.serde_json.specs.Written.{compact_text}
use Rattle.document_bookmarks.specs.declared.bookmark_order.Bookmark.{Bookmark}
use Rattle.doc_model.specs.declared.document.Document.{Document}
use Rattle.json_values.specs.Digits.{units_json}
use Rattle.json_values.specs.Rows.{number_json}
use Rattle.json_doc.specs.Pieces.{text_json, texts_json}
use Rattle.json_doc.specs.Styles.{sheet_json}
use Rattle.json_doc.specs.CarriedParts.{carried_json}

-- a bookmark: its name, where it begins and where it ends, and its flags
abbrev pub bookmark_json : Bookmark → Data
bookmark_json b =
    array (item (units_json b.name) (item (number_json b.from) (item (number_json b.to) (item (number_json b.flags)
    no_items))))

abbrev pub bookmarks_json : List Bookmark → Data
bookmarks_json bookmarks = array (items_of (map bookmark_json bookmarks))

-- the six parts of a document
abbrev pub document_members : Document → Members
document_members document =
    member (codes "bookmarks") (bookmarks_json document.bookmarks)
    (member (codes "carried") (carried_json document.carried)
    (member (codes "heads") (texts_json document.heads)
    (member (codes "main") (text_json document.main)
    (member (codes "notes") (texts_json document.notes)
    (member (codes "sheet") (sheet_json document.sheet) no_members)))))

-- the value that a document is
abbrev pub json_value : Document → Data
json_value document = object (document_members document)

-- its text, with no space in it
abbrev pub json_text : Document → List ℕ
json_text document = compact_text (json_value document)
