use Rattle.cfb_in_place.proofs.PlaceLemmas.{twice_in_place}
use Rattle.cfb_in_place.proofs.laws.stays_over_two.Goals as goal

pub returns : goal.returns
returns c = twice_in_place
