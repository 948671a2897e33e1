use Rattle.json_doc.proofs.LawLemmas.{forms_one}
use Rattle.json_doc.proofs.laws.json_forms_are_one.Goals as goal

pub returns : goal.returns
returns c = forms_one
