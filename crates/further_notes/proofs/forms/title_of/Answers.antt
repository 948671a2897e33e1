use Rattle.std.proofs.Common.{sym, subst}
use Rattle.prop_map.specs.Formed.{IsPropertyMap, character_groups}
use Rattle.prop_map.proofs.Public.{IsPropertyMap-empty}
use Rattle.further_notes.proofs.forms.title_of.Goals as goal

pub add_units-requires-clause-map : goal.add_units-requires-clause-map
add_units-requires-clause-map c =
    subst (IsPropertyMap character_groups) (sym c.new-none.ensures) (IsPropertyMap-empty character_groups)
