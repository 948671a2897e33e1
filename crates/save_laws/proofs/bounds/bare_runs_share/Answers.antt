use Rattle.save_laws.proofs.SharedLemmas.{bare_runs_share}
use Rattle.save_laws.proofs.bounds.bare_runs_share.Goals as goal

pub returns : goal.returns
returns c = bare_runs_share
