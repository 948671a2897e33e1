use Rattle.cfb_in_place.proofs.ContentsAgain.{save_contents}
use Rattle.cfb_in_place.proofs.laws.save_has_contents.Goals as goal

pub returns : goal.returns
returns c = save_contents
