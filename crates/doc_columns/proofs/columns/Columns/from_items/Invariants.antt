use Rattle.std.proofs.Common.{◌≡◌, take}
use Rattle.doc_columns.proofs.columns.Columns.from_items.Given as goal

-- the items so far
abbrev pub invariant-loop-item : goal.invariant-loop-item
invariant-loop-item l = l.made ≡ take l.item-index l.items
