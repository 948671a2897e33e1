use Rattle.effective_props.proofs.OneLemmas.{paragraph_one}
use Rattle.effective_props.proofs.laws.effective_paragraph_is_one.Goals as goal

pub returns : goal.returns
returns c = paragraph_one
