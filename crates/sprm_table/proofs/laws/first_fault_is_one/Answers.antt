use Rattle.sprm_table.proofs.FaultLemmas.{first_unique, fault_not_accepted}
use Rattle.sprm_table.proofs.laws.first_fault_is_one.Goals as goal

pub returns : goal.returns
returns c = λ bytes groups a first. (
  λ b other. first_unique bytes groups a b first other,
  fault_not_accepted bytes
      groups a first,
)
