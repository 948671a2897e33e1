use Rattle.std.proofs.Common.{◌≡◌, take}
use Rattle.doc_model.proofs.items.Items.copy.Given as goal

-- the items so far are copied
abbrev pub invariant-loop-item : goal.invariant-loop-item
invariant-loop-item l = l.items.items ≡ take l.item-index l.range
