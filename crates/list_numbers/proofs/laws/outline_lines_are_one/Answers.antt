use Rattle.list_numbers.proofs.OneLemmas.{lines_one}
use Rattle.list_numbers.proofs.laws.outline_lines_are_one.Goals as goal

pub returns : goal.returns
returns c = lines_one
