use Rattle.save_laws.proofs.SessionLemmas.{longer_plans_keep}
use Rattle.save_laws.proofs.laws.longer_plans_keep.Goals as goal

pub returns : goal.returns
returns c = longer_plans_keep
