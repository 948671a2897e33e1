use Rattle.cfb_in_place.proofs.CountLemmas.{fat_least}
use Rattle.cfb_in_place.proofs.laws.fat_grows_least.Goals as goal

pub returns : goal.returns
returns c = fat_least
