use Rattle.doc_bits.specs.Places.{Upto}
use Rattle.doc_bits.proofs.Public.{least_of_all}
use Rattle.doc_read.specs.Holds.{all_rules}
use Rattle.doc_read.proofs.OneDocument.{all_single, all_ascend}
use Rattle.doc_read.proofs.laws.first_fault_is_least.Goals as goal

pub returns : goal.returns
returns c = λ file number place first. least_of_all Upto (all_rules file) 1 72 number place (all_single file)
    (all_ascend file) first
