use Rattle.std.proofs.Common.{◌≡◌, sym, subst, rules}
use Rattle.std.specs.FinMap.{empty}
use Rattle.prop_map.specs.Formed.{IsPropertyMap, paragraph_groups}
use Rattle.prop_map.proofs.Public.{IsPropertyMap-empty}
use Rattle.edit_ops.specs.Fresh.{cell_properties}
use Rattle.edit_ops.proofs.FreshLemmas.{in_table_formed}
use Rattle.edit_ops.proofs.rows.cell_properties.Goals as goal

pub returns-clause-formed : goal.returns-clause-formed
returns-clause-formed c =
    let is : c.set.new.self ≡ cell_properties = search rules in
    subst (IsPropertyMap paragraph_groups) (sym is) (in_table_formed empty (IsPropertyMap-empty paragraph_groups))
