use Rattle.list_numbers.proofs.ExistLemmas.{values_there}
use Rattle.list_numbers.proofs.laws.paragraph_values_exist.Goals as goal

pub returns : goal.returns
returns c = values_there
