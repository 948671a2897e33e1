use Rattle.session_text.proofs.StartLemmas.{saved_texts_stand}
use Rattle.session_text.proofs.session_laws.saved_texts_stand.Goals as goal

pub returns : goal.returns
returns c = saved_texts_stand
