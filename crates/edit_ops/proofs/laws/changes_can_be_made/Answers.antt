use Rattle.edit_ops.proofs.CanMakeLemmas.{can_make}
use Rattle.edit_ops.proofs.laws.changes_can_be_made.Goals as goal

pub returns : goal.returns
returns c = can_make
