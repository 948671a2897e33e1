use Rattle.std.proofs.Common.{◌≡◌, ◌++◌, map, take, drop}
use Rattle.document_bookmarks.specs.Bookmarks.{moved_bookmark}
use Rattle.document_bookmarks.proofs.bookmark_order.move_all.Given as goal

abbrev pub invariant-loop-bookmark : goal.invariant-loop-bookmark
invariant-loop-bookmark l =
    l.bookmark-items
    ≡ map (moved_bookmark l.fn.from l.fn.to l.fn.count) (take l.bookmark-index l.fn.list.items)
    ++ drop l.bookmark-index l.fn.list.items
