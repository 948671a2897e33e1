use Rattle.docview_run.proofs.OneLemmas.{view_one}
use Rattle.docview_run.proofs.laws.view_is_one.Goals as goal

pub returns : goal.returns
returns c = view_one
