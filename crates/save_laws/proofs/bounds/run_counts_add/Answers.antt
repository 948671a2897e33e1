use Rattle.save_laws.proofs.RunLemmas.{run_counts_add}
use Rattle.save_laws.proofs.bounds.run_counts_add.Goals as goal

pub returns : goal.returns
returns c = run_counts_add
