use Rattle.prl_skips.proofs.SkipLemmas.{modify_skips}
use Rattle.prl_skips.proofs.laws.skips_modify_the_same.Goals as goal

pub returns : goal.returns
returns c = modify_skips
