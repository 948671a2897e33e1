use Rattle.save_laws.proofs.KeptLemmas.{kept_places_give}
use Rattle.save_laws.proofs.laws.kept_places_give.Goals as goal

pub returns : goal.returns
returns c = kept_places_give
