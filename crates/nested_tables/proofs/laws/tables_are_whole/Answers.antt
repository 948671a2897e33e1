use Rattle.nested_tables.proofs.WholeLemmas.{all_whole}
use Rattle.nested_tables.proofs.laws.tables_are_whole.Goals as goal

pub returns : goal.returns
returns c = all_whole
