use Rattle.page_copies.proofs.ListLemmas.{copy_acts}
use Rattle.page_copies.proofs.laws.list_copies_act_the_same.Goals as goal

pub returns : goal.returns
returns c = copy_acts
