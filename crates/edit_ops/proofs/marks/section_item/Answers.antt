use Rattle.std.proofs.Common.{Some}
use Rattle.prop_map.specs.Formed.{IsPropertyMap, section_groups}
use Rattle.doc_model.proofs.Public.{ForSome-from_cases}
use Rattle.edit_ops.proofs.marks.section_item.Goals as goal

pub add-requires-clause-maps : goal.add-requires-clause-maps
add-requires-clause-maps c =
    let maps = c.in_ok-item.ensures.maps in
    record {
      chp = maps.chp;
      pap = maps.pap;
      sect =
          ForSome-from_cases (Some c.in_ok-new_section.field-0) (IsPropertyMap section_groups)
          c.in_ok-new_section.ensures.formed;
    }
