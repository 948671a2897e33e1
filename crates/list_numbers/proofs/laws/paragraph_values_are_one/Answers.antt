use Rattle.list_numbers.proofs.OneLemmas.{paragraph_values_of_one}
use Rattle.list_numbers.proofs.laws.paragraph_values_are_one.Goals as goal

pub returns : goal.returns
returns c = paragraph_values_of_one
