use Rattle.save_laws.proofs.HeldLemmas.{files_hold}
use Rattle.save_laws.proofs.laws.saved_files_hold.Goals as goal

pub returns : goal.returns
returns c = files_hold
