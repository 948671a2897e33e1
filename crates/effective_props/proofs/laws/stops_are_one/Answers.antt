use Rattle.effective_props.proofs.OneLemmas.{stops_one}
use Rattle.effective_props.proofs.laws.stops_are_one.Goals as goal

pub returns : goal.returns
returns c = stops_one
