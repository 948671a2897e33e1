use Rattle.std.proofs.Common.{◌≡◌, ◌++◌, take, drop}
use Rattle.document_bookmarks.specs.Order.{put_in}
use Rattle.document_bookmarks.specs.Bookmarks.{bookmark_cmp}
use Rattle.document_bookmarks.proofs.bookmark_list.place_of.Given as goal

-- the bookmark comes behind those so far
abbrev pub invariant-loop-i : goal.invariant-loop-i
invariant-loop-i l =
    put_in bookmark_cmp l.bookmark l.list ≡ take l.i l.list ++ put_in bookmark_cmp l.bookmark (drop l.i l.list)
