use Rattle.std.proofs.Common.{refl, ◌∙◌}
use Rattle.doc_bits.specs.Number.{number_bytes}
use Rattle.prop_map.proofs.block.push_small.Goals as goal

pub returns-clause-bytes : goal.returns-clause-bytes
unfolding number_bytes
returns-clause-bytes c = c.in_ok-push_all.ensures.ok ∙ rw c.to_le_bytes-word.ensures refl
