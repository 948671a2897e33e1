use Rattle.direct_props.proofs.RightLemmas.{right_places_have_lists}
use Rattle.direct_props.proofs.laws.right_places_have_lists.Goals as goal

pub returns : goal.returns
returns c = right_places_have_lists
