use Rattle.piece_table.proofs.ClxRuleLemmas.{first_clx_fault_least}
use Rattle.piece_table.proofs.laws.first_clx_fault_is_least.Goals as goal

pub returns : goal.returns
returns c = first_clx_fault_least
