use Rattle.std.proofs.Common.{◌≡◌, ℕ, ◌<◌, ◌≤◌, ◌-◌, Some, false, length}
use Rattle.std.specs.Prelude.{slice_get}
use Rattle.doc_model.specs.declared.item.Item.{Item}
use Rattle.doc_columns.specs.Specials.{is_special_item}
use Rattle.doc_columns.specs.Walks.{items_in, IsColumnWalk}
use Rattle.json_doc.proofs.pieces.piece_end.Given as goal

-- the items from the place to here have nothing beside their properties, and the same of these
abbrev pub invariant-loop-until : goal.invariant-loop-until
invariant-loop-until l = record {
  walk : IsColumnWalk l.fn.parts l.walk l.until;
  some : l.place < l.until;
  within : l.until ≤ length l.fn.parts.units.now;
  alike : (k : ℕ) (item : Item) → l.place ≤ k → k < l.until → slice_get (items_in l.fn.parts) k ≡ Some item →
      (is_special_item item ≡ false) × (item.chp ≡ l.fn.first.chp.now);
}

abbrev pub decreases-loop-until : goal.decreases-loop-until
decreases-loop-until l = length l.fn.parts.units.now - l.until
