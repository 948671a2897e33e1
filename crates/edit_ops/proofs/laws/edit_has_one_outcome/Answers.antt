use Rattle.edit_ops.proofs.OutcomeLemmas.{one_outcome}
use Rattle.edit_ops.proofs.laws.edit_has_one_outcome.Goals as goal

pub returns : goal.returns
returns c = one_outcome
