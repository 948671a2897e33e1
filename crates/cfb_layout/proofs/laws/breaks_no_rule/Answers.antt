use Rattle.cfb_layout.proofs.MadeLemmas.{file_holds}
use Rattle.cfb_layout.proofs.laws.breaks_no_rule.Goals as goal

pub returns : goal.returns
returns c = file_holds
