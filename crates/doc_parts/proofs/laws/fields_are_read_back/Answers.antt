use Rattle.doc_parts.proofs.LawLemmas.{fields_back}
use Rattle.doc_parts.proofs.laws.fields_are_read_back.Goals as goal

pub returns : goal.returns
returns c = fields_back
