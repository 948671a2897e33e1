use Rattle.doc_bits.specs.Places.{Upto}
use Rattle.doc_bits.proofs.Public.{least_of_all}
use Rattle.file_rules.specs.FileRules.{file_rules}
use Rattle.file_rules.proofs.FileLemmas.{file_single, file_ascends}
use Rattle.file_rules.proofs.laws.first_file_fault_is_least.Goals as goal

pub returns : goal.returns
returns c = λ file number place first. least_of_all Upto (file_rules file) 1 58 number place (file_single file)
    (file_ascends file) first
