use Rattle.session_text.proofs.StartLemmas.{saved_sections_stand}
use Rattle.session_text.proofs.session_laws.saved_sections_stand.Goals as goal

pub returns : goal.returns
returns c = saved_sections_stand
