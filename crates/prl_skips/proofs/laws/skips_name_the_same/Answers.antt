use Rattle.prl_skips.proofs.SkipLemmas.{style_skips}
use Rattle.prl_skips.proofs.laws.skips_name_the_same.Goals as goal

pub returns : goal.returns
returns c = style_skips
