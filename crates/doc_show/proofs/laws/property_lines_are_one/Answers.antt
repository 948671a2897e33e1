use Rattle.doc_show.proofs.OneTextLemmas.{lines_one}
use Rattle.doc_show.proofs.laws.property_lines_are_one.Goals as goal

pub returns : goal.returns
returns c = lines_one
