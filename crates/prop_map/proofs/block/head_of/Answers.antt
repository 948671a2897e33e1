use Rattle.std.proofs.Common.{refl}
use Rattle.doc_bits.specs.Number.{number_bytes}
use Rattle.prop_map.proofs.block.head_of.Goals as goal

pub returns : goal.returns
unfolding number_bytes
returns c = rw (c.to_le_bytes-code.ensures, c.to_le_bytes-len.ensures) refl
