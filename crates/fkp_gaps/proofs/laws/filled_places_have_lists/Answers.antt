use Rattle.fkp_gaps.proofs.FilledLemmas.{filled_places_have_lists}
use Rattle.fkp_gaps.proofs.laws.filled_places_have_lists.Goals as goal

pub returns : goal.returns
returns c = filled_places_have_lists
