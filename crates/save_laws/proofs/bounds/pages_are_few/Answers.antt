use Rattle.save_laws.proofs.RunLemmas.{pages_are_few}
use Rattle.save_laws.proofs.bounds.pages_are_few.Goals as goal

pub returns : goal.returns
returns c = pages_are_few
