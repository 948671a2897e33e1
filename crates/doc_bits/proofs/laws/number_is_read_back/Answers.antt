use Rattle.doc_bits.proofs.NumberLemmas.{number_at-read_back}
use Rattle.doc_bits.proofs.laws.number_is_read_back.Goals as goal

pub returns : goal.returns
returns c = number_at-read_back
