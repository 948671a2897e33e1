use Rattle.effective_props.proofs.OneLemmas.{character_one}
use Rattle.effective_props.proofs.laws.effective_character_is_one.Goals as goal

pub returns : goal.returns
returns c = character_one
