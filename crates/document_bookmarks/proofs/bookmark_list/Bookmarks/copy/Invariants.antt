use Rattle.std.proofs.Common.{◌≡◌, take}
use Rattle.document_bookmarks.proofs.bookmark_list.Bookmarks.copy.Given as goal

-- the bookmarks so far are copied
abbrev pub invariant-loop-bookmark : goal.invariant-loop-bookmark
invariant-loop-bookmark l = l.items.items ≡ take l.bookmark-index l.range
