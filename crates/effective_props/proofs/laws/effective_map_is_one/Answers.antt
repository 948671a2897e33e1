use Rattle.effective_props.proofs.OneLemmas.{map_one}
use Rattle.effective_props.proofs.laws.effective_map_is_one.Goals as goal

pub returns : goal.returns
returns c = map_one
