use Rattle.std.proofs.Common.{◌≡◌, ℕ, ◌<◌, ◌≤◌, ◌-◌, Some, true}
use Rattle.std.specs.Prelude.{slice_get}
use Rattle.doc_model.specs.declared.item.Item.{Item}
use Rattle.doc_show.specs.Story.{is_plain_item}
use Rattle.doc_columns.specs.Walks.{items_in, IsColumnWalk}
use Rattle.doc_show.proofs.story.run_end.Given as goal

-- the items from the place to here are plain and have the same properties
abbrev pub invariant-loop-until : goal.invariant-loop-until
invariant-loop-until l = record {
  walk : IsColumnWalk l.fn.parts l.walk l.until;
  before : IsColumnWalk l.fn.parts l.walk l.end;
  some : l.place < l.until;
  alike : (k : ℕ) (item : Item) → l.place ≤ k → k < l.until → slice_get (items_in l.fn.parts) k ≡ Some item →
      (is_plain_item item ≡ true) × (item.chp ≡ l.fn.first.chp.now);
}

abbrev pub decreases-loop-until : goal.decreases-loop-until
decreases-loop-until l = l.end - l.until
