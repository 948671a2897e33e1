use Rattle.list_numbers.proofs.OneLemmas.{numbers_one}
use Rattle.list_numbers.proofs.laws.numbers_are_one.Goals as goal

pub returns : goal.returns
returns c = numbers_one
