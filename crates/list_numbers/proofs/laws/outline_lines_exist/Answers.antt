use Rattle.list_numbers.proofs.ExistLemmas.{lines_there}
use Rattle.list_numbers.proofs.laws.outline_lines_exist.Goals as goal

pub returns : goal.returns
returns c = lines_there
