use Rattle.std.proofs.Common.{sym, subst}
use Rattle.prop_map.specs.Formed.{IsPropertyMap, character_groups, paragraph_groups}
use Rattle.prop_map.proofs.Public.{IsPropertyMap-empty}
use Rattle.doc_model.proofs.Public.{HasPropertyMaps-from_parts}
use Rattle.session_text.proofs.added.extra_mark.Goals as goal

pub returns-clause-maps : goal.returns-clause-maps
returns-clause-maps c =
    HasPropertyMaps-from_parts _
    (subst (IsPropertyMap character_groups) (sym c.new.ensures) (IsPropertyMap-empty character_groups))
    (subst (IsPropertyMap paragraph_groups) (sym c.new-2.ensures) (IsPropertyMap-empty paragraph_groups)) tt
