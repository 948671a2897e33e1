use Rattle.std.specs.List.{AllWithin}
use Rattle.document_bookmarks.specs.Bookmarks.{IsFormedBookmark}
use Rattle.document_bookmarks.proofs.bookmark_list.all_formed.Given as goal

-- the bookmarks so far are formed
abbrev pub invariant-loop-i : goal.invariant-loop-i
invariant-loop-i l = AllWithin (IsFormedBookmark l.len) l.list 0 l.i
