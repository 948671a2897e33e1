use Rattle.save_laws.proofs.PlanLemmas.{plans_give}
use Rattle.save_laws.proofs.laws.plans_give.Goals as goal

pub returns : goal.returns
returns c = plans_give
