use Rattle.piece_table.proofs.PrintedClxLemmas.{read_back}
use Rattle.piece_table.proofs.laws.clx_is_read_back.Goals as goal

pub returns : goal.returns
returns c = read_back
