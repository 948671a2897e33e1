use Rattle.prl_skips.proofs.SkipLemmas.{act_skips}
use Rattle.prl_skips.proofs.laws.skips_act_the_same.Goals as goal

pub returns : goal.returns
returns c = act_skips
