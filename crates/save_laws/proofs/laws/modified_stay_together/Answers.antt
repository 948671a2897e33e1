use Rattle.save_laws.proofs.SessionLemmas.{modified_stay_together}
use Rattle.save_laws.proofs.laws.modified_stay_together.Goals as goal

pub returns : goal.returns
returns c = modified_stay_together
