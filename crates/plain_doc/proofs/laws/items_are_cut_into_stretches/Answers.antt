use Rattle.plain_doc.proofs.LawLemmas.{cut_into_stretches}
use Rattle.plain_doc.proofs.laws.items_are_cut_into_stretches.Goals as goal

pub returns : goal.returns
returns c = cut_into_stretches
