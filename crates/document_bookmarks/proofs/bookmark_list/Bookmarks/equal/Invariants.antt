use Rattle.std.proofs.Common.{◌≡◌, take}
use Rattle.document_bookmarks.proofs.bookmark_list.Bookmarks.equal.Given as goal

-- the bookmarks so far are the same
abbrev pub invariant-loop-i : goal.invariant-loop-i
invariant-loop-i l = take l.i l.fn.self ≡ take l.i l.fn.other
