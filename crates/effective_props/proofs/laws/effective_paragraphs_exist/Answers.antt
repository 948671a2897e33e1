use Rattle.effective_props.proofs.EffectsExist.{paragraphs_there}
use Rattle.effective_props.proofs.laws.effective_paragraphs_exist.Goals as goal

pub returns : goal.returns
returns c = paragraphs_there
