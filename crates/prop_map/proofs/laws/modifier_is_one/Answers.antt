use Rattle.prop_map.proofs.LawLemmas.{modifier_one}
use Rattle.prop_map.proofs.laws.modifier_is_one.Goals as goal

pub returns : goal.returns
returns c = modifier_one
