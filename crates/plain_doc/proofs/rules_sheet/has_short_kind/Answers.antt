use Rattle.prop_map.specs.Formed.{paragraph_groups, character_groups}
use Rattle.plain_doc.proofs.rules_sheet.has_short_kind.Goals as goal

pub is_short_pap-requires : goal.is_short_pap-requires
is_short_pap-requires c = let formed = rw c.in-Para.is at c.requires in (paragraph_groups, formed.0)

pub is_short_chp-requires : goal.is_short_chp-requires
is_short_chp-requires c = let formed = rw c.in-Para.is at c.requires in (character_groups, formed.1)

pub is_short_chp-requires-in-Char : goal.is_short_chp-requires-in-Char
is_short_chp-requires-in-Char c = (character_groups, rw c.in-Char.is at c.requires)
