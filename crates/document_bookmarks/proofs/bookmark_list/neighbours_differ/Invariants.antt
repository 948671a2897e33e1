use Rattle.std.proofs.Common.{◌≡◌, false}
use Rattle.std.specs.List.{AllAdjacentBelow}
use Rattle.document_bookmarks.specs.Names.{is_named}
use Rattle.document_bookmarks.proofs.bookmark_list.neighbours_differ.Given as goal

-- the neighbours so far have names of their own
abbrev pub invariant-loop-i : goal.invariant-loop-i
invariant-loop-i l = AllAdjacentBelow (λ x y. is_named x.name y ≡ false) l.list l.i
