use Rattle.doc_fit.proofs.AcceptedLemmas.{breaks_none}
use Rattle.doc_fit.proofs.laws.accepted_files_break_none.Goals as goal

pub returns : goal.returns
returns c = breaks_none
