use Rattle.std.proofs.Common.{subst}
use Rattle.prop_map.specs.Formed.{character_groups, paragraph_groups}
use Rattle.edit_ops.specs.Codes.{HasValidCodes}
use Rattle.fast_save.proofs.reckoned.modifier_growth.Goals as goal

pub printed_len-requires : goal.printed_len-requires
printed_len-requires c = (character_groups, subst HasValidCodes c.in-Char.is c.requires)

pub printed_len-requires-in-Para : goal.printed_len-requires-in-Para
printed_len-requires-in-Para c = (paragraph_groups, subst HasValidCodes c.in-Para.is c.requires)
