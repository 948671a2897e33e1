use Rattle.part_skips.proofs.PrcLemmas.{clx_skips}
use Rattle.part_skips.proofs.laws.skipped_prcs_mean_the_same.Goals as goal

pub returns : goal.returns
returns c = clx_skips
