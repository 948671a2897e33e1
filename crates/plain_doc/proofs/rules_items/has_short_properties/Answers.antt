use Rattle.prop_map.specs.Formed.{paragraph_groups, section_groups}
use Rattle.plain_doc.proofs.rules_items.has_short_properties.Goals as goal

pub has_short_pap-requires : goal.has_short_pap-requires
has_short_pap-requires c = λ mark is. (paragraph_groups, c.requires.pap mark is)

pub has_short_sect-requires : goal.has_short_sect-requires
has_short_sect-requires c = λ sect is. (section_groups, c.requires.sect sect is)
