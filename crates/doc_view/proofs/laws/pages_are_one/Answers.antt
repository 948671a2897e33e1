use Rattle.doc_view.proofs.LawLemmas.{pages_one}
use Rattle.doc_view.proofs.laws.pages_are_one.Goals as goal

pub returns : goal.returns
returns c = pages_one
