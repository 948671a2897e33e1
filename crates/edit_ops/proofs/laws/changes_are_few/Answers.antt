use Rattle.edit_ops.proofs.FewLemmas.{few_changes}
use Rattle.edit_ops.proofs.laws.changes_are_few.Goals as goal

pub returns : goal.returns
returns c = few_changes
