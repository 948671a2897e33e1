use Rattle.cfb_in_place.proofs.SectorsThere.{save_there}
use Rattle.cfb_in_place.proofs.laws.save_is_there.Goals as goal

pub returns : goal.returns
returns c = save_there
