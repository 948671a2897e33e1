use Rattle.session_text.proofs.StartLemmas.{properties_are_listed}
use Rattle.session_text.proofs.session_laws.properties_are_listed.Goals as goal

pub returns : goal.returns
returns c = properties_are_listed
