use Rattle.plain_doc.proofs.LawLemmas.{equal_are_same}
use Rattle.plain_doc.proofs.laws.equal_properties_are_same.Goals as goal

pub returns : goal.returns
returns c = equal_are_same
