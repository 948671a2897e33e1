use Rattle.session_text.proofs.StartLemmas.{text_counted}
use Rattle.session_text.proofs.session_laws.text_counted.Goals as goal

pub returns : goal.returns
returns c = text_counted
