use Rattle.edit_ops.proofs.RunLemmas.{few_runs}
use Rattle.edit_ops.proofs.laws.runs_are_few.Goals as goal

pub returns : goal.returns
returns c = few_runs
