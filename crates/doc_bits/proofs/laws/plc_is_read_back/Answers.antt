use Rattle.doc_bits.proofs.PlcLemmas.{printed-HasPlc}
use Rattle.doc_bits.proofs.laws.plc_is_read_back.Goals as goal

pub returns : goal.returns
returns c = printed-HasPlc
