use Rattle.summary_set.proofs.TwiceLemmas.{twice_is_once}
use Rattle.summary_set.proofs.laws.retitled_twice_is_once.Goals as goal

pub returns : goal.returns
returns c = twice_is_once
