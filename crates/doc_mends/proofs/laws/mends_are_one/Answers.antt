use Rattle.doc_mends.proofs.OneLemmas.{one_way}
use Rattle.doc_mends.proofs.laws.mends_are_one.Goals as goal

pub returns : goal.returns
returns c = one_way
