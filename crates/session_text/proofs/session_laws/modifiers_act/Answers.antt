use Rattle.session_text.proofs.ModifyLemmas.{modifiers_act}
use Rattle.session_text.proofs.session_laws.modifiers_act.Goals as goal

pub returns : goal.returns
returns c = modifiers_act
