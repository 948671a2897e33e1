use Rattle.save_laws.proofs.ClxLemmas.{clx_is_short}
use Rattle.save_laws.proofs.bounds.clx_is_short.Goals as goal

pub returns : goal.returns
returns c = clx_is_short
