use Rattle.doc_view.proofs.ShortLemmas.{page_short}
use Rattle.doc_view.proofs.laws.pages_are_short.Goals as goal

pub returns : goal.returns
returns c = page_short
