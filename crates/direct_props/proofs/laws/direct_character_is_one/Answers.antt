use Rattle.direct_props.proofs.LawLemmas.{character_one}
use Rattle.direct_props.proofs.laws.direct_character_is_one.Goals as goal

pub returns : goal.returns
returns c = character_one
