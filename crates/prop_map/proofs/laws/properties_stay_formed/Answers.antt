use Rattle.prop_map.proofs.LawLemmas.{stay_formed}
use Rattle.prop_map.proofs.laws.properties_stay_formed.Goals as goal

pub returns : goal.returns
returns c = stay_formed
