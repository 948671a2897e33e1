use Rattle.prop_map.proofs.LawLemmas.{act_in_turn}
use Rattle.prop_map.proofs.laws.lists_act_in_turn.Goals as goal

pub returns : goal.returns
returns c = act_in_turn
