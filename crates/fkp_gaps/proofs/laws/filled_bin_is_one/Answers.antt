use Rattle.fkp_gaps.proofs.FilledLemmas.{filled_bin_is_one}
use Rattle.fkp_gaps.proofs.laws.filled_bin_is_one.Goals as goal

pub returns : goal.returns
returns c = filled_bin_is_one
