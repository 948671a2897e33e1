use Rattle.std.proofs.Common.{◌≡◌, take}
use Rattle.doc_join.proofs.marks.copies.Given as goal

abbrev pub invariant-loop-i : goal.invariant-loop-i
invariant-loop-i l = l.items.items ≡ take l.i l.list
