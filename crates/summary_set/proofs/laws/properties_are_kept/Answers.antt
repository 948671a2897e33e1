use Rattle.summary_set.proofs.TitleLemmas.{kept_with_title}
use Rattle.summary_set.proofs.laws.properties_are_kept.Goals as goal

pub returns : goal.returns
returns c = kept_with_title
