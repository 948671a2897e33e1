use Rattle.doc_bits.specs.Places.{Upto}
use Rattle.doc_bits.proofs.Public.{least_of_all}
use Rattle.doc_lift.specs.LiftedFiles.{lifted_rules}
use Rattle.doc_lift.proofs.RuleLemmas.{lifted_single, lifted_ascend}
use Rattle.doc_lift.proofs.laws.first_lifted_fault_is_least.Goals as goal

pub returns : goal.returns
returns c = λ file number place first. least_of_all Upto (lifted_rules file) 1 58 number place (lifted_single file)
    (lifted_ascend file) first
