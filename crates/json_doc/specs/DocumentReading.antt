-- What the six values of a document are read as.
use Rattle.std.specs.Prelude.{ℕ, List, codes, Option, Some, None, All}
use Rattle.serde_json.specs.Data.{Data, Items, no_items, item}
use Rattle.serde_json.specs.Find.{as_array, as_object}
use Rattle.edit_script.specs.Json.{◌>>=◌}
use Rattle.edit_script.specs.Values.{position, short_number}
use Rattle.document_bookmarks.specs.declared.bookmark_order.Bookmark.{Bookmark}
use Rattle.document_bookmarks.specs.Bookmarks.{HasFileNumbers, AreFormedBookmarks}
use Rattle.json_values.specs.Digits.{hex_units_of}
use Rattle.json_values.specs.Rows.{taken, no_member_left}

-- a name, two places and flags
abbrev pub bookmark_of_items : Items → Option Bookmark
bookmark_of_items (item name (item from (item to (item flags no_items)))) = do
  units ← hex_units_of name
  begin ← position from
  end ← position to
  bits ← short_number flags
  Some (record { name = units; from = begin; to = end; flags = bits })
bookmark_of_items _ = None

abbrev pub bookmark_of : Data → Option Bookmark
bookmark_of value = as_array value >>= bookmark_of_items

-- bookmarks that fit into a main text of this length
pub record AreMarks (len : ℕ) (bookmarks : List Bookmark) : Type 0 where
  pub formed : AreFormedBookmarks len bookmarks
  pub numbers : All HasFileNumbers bookmarks

-- the values at the six keys
pub record SixValues : Type 0 where
  pub bookmarks : Data
  pub carried : Data
  pub heads : Data
  pub main : Data
  pub notes : Data
  pub sheet : Data

abbrev pub document_values : Data → Option SixValues
document_values value = do
  start ← as_object value
  bookmarks ← taken (codes "bookmarks") start
  carried ← taken (codes "carried") bookmarks.1
  heads ← taken (codes "heads") carried.1
  main ← taken (codes "main") heads.1
  notes ← taken (codes "notes") main.1
  sheet ← taken (codes "sheet") notes.1
  end ← no_member_left sheet.1
  Some (record {
    bookmarks = bookmarks.0;
    carried = carried.0;
    heads = heads.0;
    main = main.0;
    notes = notes.0;
    sheet = sheet.0;
  })
