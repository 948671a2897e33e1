-- The bookmarks of a joined document.
use Rattle.std.specs.Prelude.{ℕ, ◌+◌, List, ◌++◌, map, Bool, not}
use Rattle.std.specs.List.{filter, list_any}
use Rattle.document_bookmarks.specs.declared.bookmark_order.Bookmark.{Bookmark}
use Rattle.document_bookmarks.specs.Order.{in_order}
use Rattle.document_bookmarks.specs.Bookmarks.{bookmark_cmp}
use Rattle.document_bookmarks.specs.Names.{is_named}

-- a bookmark of a text that is behind so many items
abbrev pub bookmark_behind : ℕ → Bookmark → Bookmark
bookmark_behind len bookmark = record bookmark { from = bookmark.from + len; to = bookmark.to + len }

-- a bookmark of the list has this name
abbrev pub has_name : List Bookmark → List ℕ → Bool
has_name list name = list_any (is_named name) list

-- those of the second document whose names the first has not
abbrev pub bookmarks_from_second : ℕ → List Bookmark → List Bookmark → List Bookmark
bookmarks_from_second len first second =
    map (bookmark_behind len) (filter (λ bookmark. not (has_name first bookmark.name)) second)

-- those of the first document, and those with other names of the second, behind a main text of so many items
abbrev pub joined_bookmarks : ℕ → List Bookmark → List Bookmark → List Bookmark
joined_bookmarks len first second = in_order bookmark_cmp (first ++ bookmarks_from_second len first second)
