use Rattle.plain_doc.proofs.LawLemmas.{one_cut}
use Rattle.plain_doc.proofs.laws.stretches_are_one.Goals as goal

pub returns : goal.returns
returns c = one_cut
