use Rattle.property_sets.proofs.LawLemmas.{values_bounded}
use Rattle.property_sets.proofs.laws.values_are_bounded.Goals as goal

pub returns : goal.returns
returns c = values_bounded
