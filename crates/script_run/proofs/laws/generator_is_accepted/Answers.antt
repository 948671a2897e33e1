use Rattle.script_run.proofs.GeneratedRunLemmas.{generator_accepted}
use Rattle.script_run.proofs.laws.generator_is_accepted.Goals as goal

pub returns : goal.returns
returns c = generator_accepted
