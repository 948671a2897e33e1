use Rattle.std.proofs.Common.{take}
use Rattle.document_bookmarks.specs.Names.{AreApart}
use Rattle.document_bookmarks.proofs.bookmark_list.repeated_name.Given as goal

-- the bookmarks so far have names of their own
abbrev pub invariant-loop-i : goal.invariant-loop-i
invariant-loop-i l = AreApart (take l.i l.list)
