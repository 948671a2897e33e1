use Rattle.json_doc.proofs.LawLemmas.{is_shallow}
use Rattle.json_doc.proofs.laws.json_is_shallow.Goals as goal

pub returns : goal.returns
returns c = is_shallow
