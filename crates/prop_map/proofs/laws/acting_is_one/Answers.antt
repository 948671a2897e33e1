use Rattle.prop_map.proofs.LawLemmas.{acting_one}
use Rattle.prop_map.proofs.laws.acting_is_one.Goals as goal

pub returns : goal.returns
returns c = acting_one
