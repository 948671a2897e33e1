use Rattle.script_run.proofs.LedgerLemmas.{generated_are_small}
use Rattle.script_run.proofs.laws.generated_saves_are_small.Goals as goal

pub returns : goal.returns
returns c = generated_are_small
