use Rattle.std.proofs.Common.{sym, subst}
use Rattle.prop_map.specs.Formed.{IsPropertyMap, character_groups}
use Rattle.prop_map.proofs.Public.{IsPropertyMap-empty}
use Rattle.edit_ops.proofs.rows.table_mark.Goals as goal

pub mark_item-requires-clause-chp : goal.mark_item-requires-clause-chp
mark_item-requires-clause-chp c = subst (IsPropertyMap character_groups) (sym c.new-none.ensures) (IsPropertyMap-empty
    character_groups)
