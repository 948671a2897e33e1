use Rattle.cfb_in_place.proofs.SavedHolds.{save_holds}
use Rattle.cfb_in_place.proofs.laws.save_breaks_no_rule.Goals as goal

pub returns : goal.returns
returns c = save_holds
