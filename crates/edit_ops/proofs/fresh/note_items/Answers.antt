use Rattle.edit_ops.proofs.fresh.note_items.Goals as goal

pub returns : goal.returns
returns c = c.note_over-made.ensures
