use Rattle.summary_set.proofs.ReadBackLemmas.{read_back}
use Rattle.summary_set.proofs.laws.written_set_is_read_back.Goals as goal

pub returns : goal.returns
returns c = read_back
