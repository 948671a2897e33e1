use Rattle.doc_bits.specs.Number.{number_bytes}
use Rattle.prop_map.proofs.modifiers.style_bytes.Goals as goal

pub returns-clause-bytes : goal.returns-clause-bytes
unfolding number_bytes
returns-clause-bytes c = c.to_le_bytes.ensures
