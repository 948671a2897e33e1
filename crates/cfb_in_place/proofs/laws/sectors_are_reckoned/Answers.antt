use Rattle.cfb_in_place.proofs.CountLemmas.{reckoned}
use Rattle.cfb_in_place.proofs.laws.sectors_are_reckoned.Goals as goal

pub returns : goal.returns
returns c = reckoned
