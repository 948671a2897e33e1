use Rattle.save_laws.proofs.PageBoundLemmas.{bare_marks_share}
use Rattle.save_laws.proofs.bounds.bare_marks_share.Goals as goal

pub returns : goal.returns
returns c = bare_marks_share
