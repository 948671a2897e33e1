use Rattle.prl_skips.proofs.SkipLemmas.{make_skips}
use Rattle.prl_skips.proofs.laws.skips_make_the_same.Goals as goal

pub returns : goal.returns
returns c = make_skips
