use Rattle.doc_view.proofs.ControlLemmas.{page_plain}
use Rattle.doc_view.proofs.laws.no_controls.Goals as goal

pub returns : goal.returns
returns c = page_plain
