-- The list is well formed: the ranges of what an item has come from its type.
use Rattle.doc_model.proofs.items.Items.from_vec.Goals as goal

pub invariant_of-result : goal.invariant_of-result
invariant_of-result c = record { few = c.requires.few; each = rw c.deref.ensures.value at c.are_formed.ensures }
