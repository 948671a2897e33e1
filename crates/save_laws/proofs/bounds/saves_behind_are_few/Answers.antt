use Rattle.save_laws.proofs.BehindLemmas.{saves_behind_are_few}
use Rattle.save_laws.proofs.bounds.saves_behind_are_few.Goals as goal

pub returns : goal.returns
returns c = saves_behind_are_few
