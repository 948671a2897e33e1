use Rattle.prop_map.specs.Formed.{IsPropertyMap, section_groups}
use Rattle.json_doc.proofs.RowLemmas.{for_iff}
use Rattle.json_doc.proofs.piece_reading.has_valid_section.Goals as goal

pub returns-in-Some : goal.returns-in-Some
returns-in-Some c = for_iff (IsPropertyMap section_groups) c.args.sect.now c.in-Some.map _ c.in-Some.is
    c.is_held.ensures
