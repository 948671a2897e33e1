use Rattle.doc_join.proofs.ExistLemmas.{effects_there}
use Rattle.doc_join.proofs.laws.effects_exist.Goals as goal

pub returns : goal.returns
returns c = effects_there
