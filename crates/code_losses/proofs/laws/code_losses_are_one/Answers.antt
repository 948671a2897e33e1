use Rattle.code_losses.proofs.LawLemmas.{losses_one}
use Rattle.code_losses.proofs.laws.code_losses_are_one.Goals as goal

pub returns : goal.returns
returns c = losses_one
