use Rattle.save_laws.proofs.FullByRuns.{full_saves_are_bounded}
use Rattle.save_laws.proofs.laws.full_saves_are_bounded.Goals as goal

pub returns : goal.returns
returns c = full_saves_are_bounded
