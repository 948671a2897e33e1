use Rattle.std.proofs.Common.{◌≡◌, ◌++◌, map, take, drop}
use Rattle.doc_mends.specs.Cuts.{bookmark_left}
use Rattle.doc_mends.proofs.cutting.move_bookmarks.Given as goal

-- the first bookmarks are moved, and the others are as they were
abbrev pub invariant-loop-i : goal.invariant-loop-i
invariant-loop-i l = l.list ≡ map (bookmark_left l.flags) (take l.i l.fn.list) ++ drop l.i l.fn.list
