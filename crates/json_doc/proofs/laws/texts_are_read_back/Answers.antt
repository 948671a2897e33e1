use Rattle.json_doc.proofs.LawLemmas.{read_back}
use Rattle.json_doc.proofs.laws.texts_are_read_back.Goals as goal

pub returns : goal.returns
returns c = read_back
