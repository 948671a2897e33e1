use Rattle.doc_parts.proofs.LawLemmas.{sections_back}
use Rattle.doc_parts.proofs.laws.sections_are_read_back.Goals as goal

pub returns : goal.returns
returns c = sections_back
