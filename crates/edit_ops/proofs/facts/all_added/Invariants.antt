use Rattle.std.proofs.Common.{◌≡◌, take}
use Rattle.std.specs.List.{sum_by}
use Rattle.edit_ops.specs.EditFacts.{items_added}
use Rattle.edit_ops.proofs.facts.all_added.Given as goal

-- the items that the changes so far add
abbrev pub invariant-loop-i : goal.invariant-loop-i
invariant-loop-i l = l.count ≡ sum_by items_added (take l.i l.changes)
