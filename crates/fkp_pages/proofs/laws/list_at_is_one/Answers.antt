use Rattle.fkp_pages.proofs.PropertyLemmas.{list_at_one}
use Rattle.fkp_pages.proofs.laws.list_at_is_one.Goals as goal

pub returns : goal.returns
returns c = list_at_one
