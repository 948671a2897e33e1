use Rattle.effective_props.proofs.EffectsExist.{characters_there}
use Rattle.effective_props.proofs.laws.effective_characters_exist.Goals as goal

pub returns : goal.returns
returns c = characters_there
