use Rattle.prop_map.specs.Formed.{character_groups}
use Rattle.edit_ops.proofs.fresh.without_special.Goals as goal

pub returns-clause-formed : goal.returns-clause-formed
returns-clause-formed c = c.in_ok-base.ensures.formed character_groups c.requires
