use Rattle.cfb_in_place.proofs.ContentsAgain.{save_stays}
use Rattle.cfb_in_place.proofs.laws.save_stays_in_place.Goals as goal

pub returns : goal.returns
returns c = save_stays
