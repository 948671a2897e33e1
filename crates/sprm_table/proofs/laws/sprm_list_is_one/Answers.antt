use Rattle.sprm_table.proofs.SprmLemmas.{spelt_unique}
use Rattle.sprm_table.proofs.laws.sprm_list_is_one.Goals as goal

pub returns : goal.returns
returns c = spelt_unique
