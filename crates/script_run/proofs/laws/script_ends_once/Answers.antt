use Rattle.script_run.proofs.EndLemmas.{ends_once}
use Rattle.script_run.proofs.laws.script_ends_once.Goals as goal

pub returns : goal.returns
returns c = ends_once
