use Rattle.doc_parts.proofs.LawLemmas.{refs_back}
use Rattle.doc_parts.proofs.laws.refs_are_read_back.Goals as goal

pub returns : goal.returns
returns c = refs_back
