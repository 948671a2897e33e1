-- What commands say of bookmarks: the one of a name, a new one, and the lists with one more and one less.
use Rattle.std.specs.Prelude.{ℕ, ◌-◌, min, not, List, Option, length}
use Rattle.std.specs.List.{filter, find}
use Rattle.std.specs.Option.{unwrap_or, option_map}
use Rattle.doc_model.specs.declared.item.Item.{Item}
use Rattle.document_bookmarks.specs.declared.bookmark_order.Bookmark.{Bookmark}
use Rattle.document_bookmarks.specs.Order.{put_in as put_in_order}
use Rattle.document_bookmarks.specs.Bookmarks.{bookmark_cmp}
use Rattle.document_bookmarks.specs.Names.{is_named}

-- the bookmark of this name, where it is there
abbrev pub bookmark_named : List ℕ → List Bookmark → Option Bookmark
bookmark_named name bookmarks = find (is_named name) bookmarks

-- where it begins; 0 where there is none
abbrev pub bookmark_begin : List ℕ → List Bookmark → ℕ
bookmark_begin name bookmarks = unwrap_or (option_map (λ b. b.from) (bookmark_named name bookmarks)) 0

-- a bookmark without flags
abbrev pub new_bookmark : List ℕ → ℕ → ℕ → Bookmark
new_bookmark name from to = record { name = name; from = from; to = to; flags = 0 }

-- the bookmarks with one more in its place, and without those of a name
abbrev pub with_bookmark : Bookmark → List Bookmark → List Bookmark
with_bookmark bookmark bookmarks = put_in_order bookmark_cmp bookmark bookmarks

abbrev pub without_bookmark : List ℕ → List Bookmark → List Bookmark
without_bookmark name bookmarks = filter (λ b. not (is_named name b)) bookmarks

-- the place whose paragraph holds a bookmark's begin: the last one, where it begins at the end of the text
abbrev pub place_before : List Item → ℕ → ℕ
place_before main from = min from (length main - 1)
