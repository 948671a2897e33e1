use Rattle.fkp_gaps.proofs.GapLemmas.{gaps_have_no_list}
use Rattle.fkp_gaps.proofs.laws.gaps_have_no_list.Goals as goal

pub returns : goal.returns
returns c = gaps_have_no_list
