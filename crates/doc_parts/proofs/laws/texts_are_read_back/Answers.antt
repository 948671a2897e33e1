use Rattle.doc_parts.proofs.LawLemmas.{texts_back}
use Rattle.doc_parts.proofs.laws.texts_are_read_back.Goals as goal

pub returns : goal.returns
returns c = texts_back
