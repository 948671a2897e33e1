use Rattle.edit_guards.proofs.LawLemmas.{one_first_refuser}
use Rattle.edit_guards.proofs.laws.first_refuser_is_one.Goals as goal

pub returns : goal.returns
returns c = one_first_refuser
