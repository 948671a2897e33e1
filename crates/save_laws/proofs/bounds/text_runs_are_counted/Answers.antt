use Rattle.save_laws.proofs.RunLemmas.{text_runs_are_counted}
use Rattle.save_laws.proofs.bounds.text_runs_are_counted.Goals as goal

pub returns : goal.returns
returns c = text_runs_are_counted
