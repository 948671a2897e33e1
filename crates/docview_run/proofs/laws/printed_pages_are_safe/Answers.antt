use Rattle.docview_run.proofs.SafeLemmas.{printed_safe}
use Rattle.docview_run.proofs.laws.printed_pages_are_safe.Goals as goal

pub returns : goal.returns
returns c = printed_safe
