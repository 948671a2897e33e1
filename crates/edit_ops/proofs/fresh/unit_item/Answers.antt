use Rattle.std.proofs.Common.{sym, subst}
use Rattle.prop_map.specs.Formed.{IsPropertyMap, character_groups}
use Rattle.doc_model.proofs.Public.{HasPropertyMaps-from_parts}
use Rattle.edit_ops.proofs.fresh.unit_item.Goals as goal

pub returns-clause-maps : goal.returns-clause-maps
returns-clause-maps c =
    HasPropertyMaps-from_parts _ (subst (IsPropertyMap character_groups) (sym c.in_ok-copy.ensures) c.requires) tt tt
