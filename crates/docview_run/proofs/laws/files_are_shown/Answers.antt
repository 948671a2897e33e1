use Rattle.docview_run.proofs.CompleteLemmas.{files_shown}
use Rattle.docview_run.proofs.laws.files_are_shown.Goals as goal

pub returns : goal.returns
returns c = files_shown
