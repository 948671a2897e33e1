use Rattle.save_laws.proofs.HeldLemmas.{saved_held}
use Rattle.save_laws.proofs.laws.saved_documents_are_held.Goals as goal

pub returns : goal.returns
returns c = saved_held
