use Rattle.json_doc.proofs.LawLemmas.{texts_read}
use Rattle.json_doc.proofs.laws.json_texts_are_read.Goals as goal

pub returns : goal.returns
returns c = texts_read
