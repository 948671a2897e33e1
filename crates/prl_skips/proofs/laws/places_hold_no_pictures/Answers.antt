use Rattle.std.proofs.Common.{refl}
use Rattle.prl_skips.proofs.laws.places_hold_no_pictures.Goals as goal

pub returns : goal.returns
returns c = (refl, (refl, (refl, refl)))
