use Rattle.std.proofs.Common.{◌≡◌, ◌++◌, take}
use Rattle.doc_join.specs.Bookmarks.{bookmarks_from_second}
use Rattle.doc_join.proofs.marks.join_bookmarks.Given as goal

abbrev pub invariant-loop-i : goal.invariant-loop-i
invariant-loop-i l = l.made ≡ l.first ++ bookmarks_from_second l.before l.first (take l.i l.second)
