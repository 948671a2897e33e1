use Rattle.save_laws.proofs.KeptLemmas.{kept_properties_are_there}
use Rattle.save_laws.proofs.laws.kept_properties_are_there.Goals as goal

pub returns : goal.returns
returns c = kept_properties_are_there
