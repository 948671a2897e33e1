use Rattle.effective_props.proofs.LastLemmas.{last_decides}
use Rattle.effective_props.proofs.laws.last_layer_decides.Goals as goal

pub returns : goal.returns
returns c = last_decides
