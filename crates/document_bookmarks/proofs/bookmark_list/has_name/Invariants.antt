use Rattle.std.proofs.Common.{◌≡◌, take}
use Rattle.std.specs.List.{count_by}
use Rattle.document_bookmarks.specs.Names.{is_named}
use Rattle.document_bookmarks.proofs.bookmark_list.has_name.Given as goal

-- none so far has the name
abbrev pub invariant-loop-bookmark : goal.invariant-loop-bookmark
invariant-loop-bookmark l = count_by (is_named l.name) (take l.bookmark-index l.list) ≡ 0
