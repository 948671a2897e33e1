use Rattle.prl_skips.proofs.SkipLemmas.{accepted_skips}
use Rattle.prl_skips.proofs.laws.skips_are_accepted.Goals as goal

pub returns : goal.returns
returns c = accepted_skips
