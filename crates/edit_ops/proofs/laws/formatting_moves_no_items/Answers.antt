use Rattle.edit_ops.proofs.FewLemmas.{formatting_moves}
use Rattle.edit_ops.proofs.laws.formatting_moves_no_items.Goals as goal

pub returns : goal.returns
returns c = formatting_moves
