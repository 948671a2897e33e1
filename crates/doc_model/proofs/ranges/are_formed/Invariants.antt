use Rattle.std.proofs.Common.{ℕ, ◌<◌}
use Rattle.std.specs.Prelude.{slice_index_or}
use Rattle.doc_model.specs.declared.item.Item.{Item}
use Rattle.doc_model.specs.Document.{IsFormedItem}
use Rattle.doc_model.proofs.ranges.are_formed.Given as goal

-- the items so far are well formed
abbrev pub invariant-loop-item : goal.invariant-loop-item
invariant-loop-item l = (d : Item) (k : ℕ) → k < l.item-index → IsFormedItem (slice_index_or l.items k d)
