use Rattle.save_laws.proofs.SessionLemmas.{main_splices}
use Rattle.save_laws.proofs.laws.main_splices.Goals as goal

pub returns : goal.returns
returns c = main_splices
