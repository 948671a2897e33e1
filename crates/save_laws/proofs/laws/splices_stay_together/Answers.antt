use Rattle.save_laws.proofs.SessionLemmas.{splices_stay_together}
use Rattle.save_laws.proofs.laws.splices_stay_together.Goals as goal

pub returns : goal.returns
returns c = splices_stay_together
