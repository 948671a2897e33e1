use Rattle.list_numbers.proofs.ExistLemmas.{numbers_there}
use Rattle.list_numbers.proofs.laws.numbers_exist.Goals as goal

pub returns : goal.returns
returns c = numbers_there
