use Rattle.plain_doc.proofs.LawLemmas.{first_fault_least}
use Rattle.plain_doc.proofs.laws.first_doc_fault_is_least.Goals as goal

pub returns : goal.returns
returns c = first_fault_least
