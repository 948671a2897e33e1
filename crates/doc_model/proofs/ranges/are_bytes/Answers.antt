use Rattle.std.proofs.Common.{arith}
use Rattle.doc_model.proofs.ranges.are_bytes.Goals as goal

pub returns : goal.returns
returns c i = let byte = c.type_inv.bytes i in omega arith
