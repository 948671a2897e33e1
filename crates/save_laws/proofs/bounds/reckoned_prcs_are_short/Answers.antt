use Rattle.save_laws.proofs.ClxLemmas.{reckoned_prcs_are_short}
use Rattle.save_laws.proofs.bounds.reckoned_prcs_are_short.Goals as goal

pub returns : goal.returns
returns c = reckoned_prcs_are_short
