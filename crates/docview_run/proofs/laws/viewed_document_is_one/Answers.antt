use Rattle.docview_run.proofs.ViewLemmas.{viewed_one}
use Rattle.docview_run.proofs.laws.viewed_document_is_one.Goals as goal

pub returns : goal.returns
returns c = viewed_one
