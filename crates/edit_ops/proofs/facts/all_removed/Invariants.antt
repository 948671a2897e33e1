use Rattle.std.proofs.Common.{◌≡◌, take}
use Rattle.std.specs.List.{sum_by}
use Rattle.edit_ops.specs.EditFacts.{items_removed}
use Rattle.edit_ops.proofs.facts.all_removed.Given as goal

-- the items that the changes so far remove
abbrev pub invariant-loop-i : goal.invariant-loop-i
invariant-loop-i l = l.count ≡ sum_by (items_removed l.document) (take l.i l.changes)
