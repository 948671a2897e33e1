use Rattle.doc_bits.specs.Number.{number_bytes}
use Rattle.doc_bits.proofs.lists.Bytes.push32.Goals as goal

pub returns-clause-ok : goal.returns-clause-ok
unfolding number_bytes
returns-clause-ok c = rw c.write_u32.ensures at c.push_all.ensures.ok
